-- 21 is exactly what specs/Exact.antt says.
-- Assumes nothing.
use mathlib.Core.Path.{◌≡◌, refl, ap, ◌∙◌}
use mathlib.Core.Bool.{Bool, true, false, cond, ◌&&◌}
use mathlib.Core.List.{List, [], ◌∷◌, ◌++◌}
use Prim.Native.Nat.{ℕ, ◌+◌}
use native.Mathlib.Omega.{arith}
use lib.Dec.{eqb}
use Rattle.std.specs.Prelude.{Option, None, Some}
use Rattle.laws.proofs.Booleans.{and_left, and_right}
use Rattle.refusals.specs.Refusals.{Refusal, first as first_line, refuse_at, refuse_if}
use Rattle.image.specs.Bytes.{part}
use Rattle.image.specs.Kinds.{TREE, TEXT}
use Rattle.image.specs.Read.{Tree, Trees, absent, node, nil, ◌▸◌, Read, Image, read_refusal}
use Rattle.moves.specs.Moves.{texts_where, all_where, first_where, head_of, is_wrong, is_wide, read_forward, read_back}
use Rattle.moves.specs.Exact.{TextIn, itself, within, TextAmong, first, later, Exactly, TwentyOne}
use Rattle.moves.proofs.Sought.{nothing_left}

-- ---- what is found
-- p is the first of a list
abbrev Leads : ℕ → List ℕ → Type 0
Leads p l = head_of l ≡ Some p

either : {A : Type 0} (p : ℕ) (xs ys : List ℕ) → Leads p (xs ++ ys) → (Leads p xs → A) → (Leads p ys → A) → A
either p [] ys h f g = g h
either p (x ∷ xs) ys h f g = f h

record Text (test : Bool → List ℕ → Bool) (b : List ℕ) (u : Bool) (t : Tree) (p : ℕ) : Type 0 where
  shebang : Bool
  payload : List ℕ
  there : TextIn b u t p shebang payload
  holds : test shebang payload ≡ true

record Texts (test : Bool → List ℕ → Bool) (b : List ℕ) (u : Bool) (ts : Trees) (p : ℕ) : Type 0 where
  shebang : Bool
  payload : List ℕ
  there : TextAmong b u ts p shebang payload
  holds : test shebang payload ≡ true

mutual
  unfolding texts_where

  found : (test : Bool → List ℕ → Bool) (b : List ℕ) (u : Bool) (t : Tree) (p : ℕ) → Leads p (texts_where test b u t) → Text test b u t p
  found test b u absent p h = cc
  found test b u (node g ts) p h =
      either p _ _ h (own (eqb g.kind TEXT && test u (part (g.at + 13) g.first b)) refl)
      (λ q.
      let w = found_all test b (eqb g.kind TREE) ts p q in
      record { shebang = w.shebang; payload = w.payload; there = within w.there; holds = w.holds })
    where
      own : (c : Bool) → eqb g.kind TEXT && test u (part (g.at + 13) g.first b) ≡ c → Leads p (cond c (g.at ∷ []) []) → Text test b u (node g ts) p
      own false e q = cc
      own true e q =
          let same : g.at ≡ p = cc in
          rw (← same)
          (record {
            shebang = u;
            payload = part (g.at + 13) g.first b;
            there = itself (and_left (eqb g.kind TEXT) (test u (part (g.at + 13) g.first b)) e);
            holds = and_right (eqb g.kind TEXT) (test u (part (g.at + 13) g.first b)) e;
          })

  found_all : (test : Bool → List ℕ → Bool) (b : List ℕ) (u : Bool) (ts : Trees) (p : ℕ) → Leads p (all_where test b u ts) → Texts test b u ts p
  found_all test b u nil p h = cc
  found_all test b u (t ▸ ts) p h =
      either p _ _ h
      (λ q. let w = found test b u t p q in record { shebang = w.shebang; payload = w.payload; there = first w.there; holds = w.holds })
      (λ q. let w = found_all test b false ts p q in record { shebang = w.shebang; payload = w.payload; there = later w.there; holds = w.holds })

-- ---- where none is found
mutual
  unfolding texts_where

  passes_in : (test : Bool → List ℕ → Bool) (b : List ℕ) {u : Bool} {t : Tree} {at : ℕ} {w : Bool} {x : List ℕ} → TextIn b u t at w x
      → texts_where test b u t ≡ [] → test w x ≡ false
  passes_in test b (itself {u = u} {h = h} {ts = ts} k) e =
      let text = part (h.at + 13) h.first b in
      own (test u text) (rw k at (nothing_left (cond (eqb h.kind TEXT && test u text) (h.at ∷ []) []) _ e).0)
    where
      own : (t : Bool) → cond t (h.at ∷ []) [] ≡ [] → t ≡ false
      own true q = cc
      own false q = refl
  passes_in test b (within {u = u} {h = h} {ts = ts} i) e =
      passes_among test b i (nothing_left (cond (eqb h.kind TEXT && test u (part (h.at + 13) h.first b)) (h.at ∷ []) []) _ e).1

  passes_among : (test : Bool → List ℕ → Bool) (b : List ℕ) {u : Bool} {ts : Trees} {at : ℕ} {w : Bool} {x : List ℕ} → TextAmong b u ts at w x
      → all_where test b u ts ≡ [] → test w x ≡ false
  passes_among test b (first {u = u} {t = t} {ts = ts} i) e = passes_in test b i (nothing_left (texts_where test b u t) _ e).0
  passes_among test b (later {u = u} {t = t} {ts = ts} i) e = passes_among test b i (nothing_left (texts_where test b u t) _ e).1

-- ---- the line
module _ (test : Bool → List ℕ → Bool) (b : List ℕ) (r : Read Image) (last : Option Refusal)
    (other : (p : ℕ) → last ≡ Some (record { number = 21; place = p }) → ⊥) where
  line : Option Refusal
  line = first_line (read_refusal r ∷ refuse_at (head_of (first_where test b r)) 21 ∷ last ∷ [])

  clashes : {q : Refusal} → ◌≡◌ {A = Option Refusal} None (Some q) → ⊥
  clashes h = let z : ◌≡◌ {A = ℕ} 0 1 = ap (λ (o : Option Refusal). elim o [ None ↦ 0 | Some r ↦ 1 ]) h in omega arith

  abbrev place_of : Option Refusal → Option ℕ
  place_of None = None
  place_of (Some r) = Some r.place

  abbrev lines : List ℕ → Option Refusal
  lines l = first_line (refuse_at (head_of l) 21 ∷ last ∷ [])

  leads : (l : List ℕ) (p : ℕ) → lines l ≡ Some (record { number = 21; place = p }) → Leads p l
  leads [] p h = go last refl h
    where
      go : (o : Option Refusal) → last ≡ o → first_line (o ∷ []) ≡ Some (record { number = 21; place = p }) → Leads p []
      go None e h = absurd (clashes h)
      go (Some q) e h = absurd (other p (e ∙ h))
  leads (x ∷ l) p h = ap (λ (o : Option Refusal). place_of o) h

  empties : (l : List ℕ) → ((p : ℕ) → lines l ≡ Some (record { number = 21; place = p }) → ⊥) → l ≡ []
  empties [] h = refl
  empties (x ∷ l) h = absurd (h x refl)

  pub exactly : Exactly test b r (first_line (read_refusal r ∷ refuse_at (head_of (first_where test b r)) 21 ∷ last ∷ []))
  exactly =
      record {
        named = λ i end p e h.
            let w = found test b false i.tree p (leads (texts_where test b false i.tree) p (rw e at h)) in
            record { shebang = w.shebang; payload = w.payload; there = w.there; holds = w.holds };
        none = λ i end at w x e h t. passes_in test b t (empties (texts_where test b false i.tree) (rw e at h));
      }

-- 17 is another number
not_21 : (t : Bool) (n p : ℕ) → refuse_if t 17 n ≡ Some (record { number = 21; place = p }) → ⊥
not_21 true n p h = let z : ◌≡◌ {A = ℕ} 17 21 = ap (λ (o : Option Refusal). elim o [ None ↦ 0 | Some r ↦ r.number ]) h in omega arith
not_21 false n p h = let z : ◌≡◌ {A = ℕ} 0 1 = ap (λ (o : Option Refusal). elim o [ None ↦ 0 | Some r ↦ 1 ]) h in omega arith

pub twenty_one : TwentyOne
twenty_one s b room =
    (exactly is_wrong b (read_forward s b) _ (not_21 _ _), exactly is_wide b (read_back s b) _ (not_21 _ _))
