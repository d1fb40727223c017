-- What holds of each of some stops.
-- Assumes nothing.
use mathlib.Core.Bool.{Bool, true, false, cond}
use mathlib.Core.List.{List, [], ◌∷◌, ◌++◌}
use Rattle.renderer_rules.specs.Stops.{Stop}
use Rattle.renderer_rules.specs.Drift.{AllStops}

pub all_none : (P : Stop → Type 0) → AllStops P []
unfolding AllStops
all_none P = tt

pub all_first : (P : Stop → Type 0) (e : Stop) (l : List Stop) → P e → AllStops P l → AllStops P (e ∷ l)
unfolding AllStops
all_first P e l p x = (p, x)

pub all_append : (P : Stop → Type 0) (a b : List Stop) → AllStops P a → AllStops P b → AllStops P (a ++ b)
unfolding AllStops
all_append P [] b x y = y
all_append P (e ∷ a) b x y = (x.0, all_append P a b x.1 y)

pub all_map : (P Q : Stop → Type 0) → ((e : Stop) → P e → Q e) → (l : List Stop) → AllStops P l → AllStops Q l
unfolding AllStops
all_map P Q f [] x = tt
all_map P Q f (e ∷ l) x = (f e x.0, all_map P Q f l x.1)

pub all_cond : (P : Stop → Type 0) (b : Bool) (x y : List Stop) → AllStops P x → AllStops P y → AllStops P (cond b x y)
all_cond P true x y p q = p
all_cond P false x y p q = q

pub all_both : (P Q : Stop → Type 0) (l : List Stop) → AllStops P l → AllStops Q l → AllStops (λ e. P e × Q e) l
unfolding AllStops
all_both P Q [] x y = tt
all_both P Q (e ∷ l) x y = ((x.0, y.0), all_both P Q l x.1 y.1)
