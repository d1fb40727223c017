-- Document 01, "When a call is turned down": a refusal, and the table's order.
use Rattle.std.specs.Prelude.{Bool, true, false, ◌||◌, List, [], ◌∷◌, ℕ, eqb, Option, None, Some}

-- "Number and place are all that comes back."
pub record Refusal : Type 0 where
  pub number : ℕ
  pub place : ℕ

-- a refusal with its number and place, where a test holds or a place is found
abbrev pub refuse_if : Bool → ℕ → ℕ → Option Refusal
refuse_if true n p = Some (record { number = n; place = p })
refuse_if false n p = None

abbrev pub refuse_at : Option ℕ → ℕ → Option Refusal
refuse_at (Some p) n = Some (record { number = n; place = p })
refuse_at None n = None

-- a cause with several tests: one of them holds
abbrev pub any : List Bool → Bool
any [] = false
any (b ∷ bs) = b || any bs

-- "Checked top to bottom": the first that refuses
abbrev pub or_else : Option Refusal → Option Refusal → Option Refusal
or_else (Some r) rest = Some r
or_else None rest = rest

abbrev pub first : List (Option Refusal) → Option Refusal
first [] = None
first (o ∷ os) = or_else o (first os)

-- a number is one of those under which an entry refuses
abbrev pub is_one_of : ℕ → List ℕ → Bool
is_one_of n [] = false
is_one_of n (k ∷ ks) = eqb n k || is_one_of n ks

-- "Left as it was: all": the first where a call is refused, the second where it is accepted
abbrev pub unless : {A : Type 0} → Option Refusal → A → A → A
unless (Some r) same new = same
unless None same new = new
