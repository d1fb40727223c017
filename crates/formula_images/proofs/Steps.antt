-- Steps put one after the other.
-- Assumes nothing.
use mathlib.Core.Path.{◌≡◌, refl, sym, ap, ap₂, ◌∙◌}
use mathlib.Core.List.{List, [], ◌∷◌, ◌++◌, append-nil, append_assoc}
use Prim.Native.Nat.{ℕ, ◌+◌, ◌%◌, ◌≤◌, ◌<◌}
use native.Mathlib.Omega.{arith}
use native.Mathlib.Nat.{mod-eq_of_lt}
use lib.ListN.{length, take, drop, length-append}
use lib.Seq.{sets, sets-eq}
use Rattle.image.specs.Bytes.{be16}
use Rattle.image.specs.Kinds.{TEXT, PATH, PATH_EXPR, NEGATE, PARENTHESES, BIN_OP}
use Rattle.image.specs.Write.{Plain, done, ◌next◌, bytes2, bytes4}
use Rattle.steps.specs.Steps.{Step, open_step, close_step, step_bytes, list_bytes, payload_steps, tree_steps}
use Rattle.steps.proofs.Payloads.{text_steps}
use Rattle.steps.proofs.Taken.{list_append}
use Rattle.writer.specs.declared.output.Output.{Output}
use Rattle.writer.specs.Appends.{Appends}
use Rattle.writer.specs.Stands.{Puts}
use Rattle.writer.proofs.Stores.{sets_behind}
use Rattle.formulas.specs.Formulas.{Op, Formula, path, binary, negation, parentheses, place}
use Rattle.formula_images.specs.Images.{node, text_of, path_of, operator_of, u32, record_of}
use Rattle.formula_images.specs.Parts.{steps_in, formula_steps, const_steps}

-- ---- one after the other
pub appends_join : {xs ys : List ℕ} {s t u : Output} → Appends xs s t → Appends ys t u → Appends (xs ++ ys) s u
appends_join {xs} {ys} {s} {t} {u} p q =
    record {
      bytes = q.bytes ∙ ap (λ (z : List ℕ). sets z t.pos ys) p.bytes ∙ sets_behind xs ys s.bytes.now s.pos t.pos p.place;
      place = omega (arith, p.place, q.place, length-append xs ys);
      name = q.name ∙ p.name;
    }

pub appends_as : {xs ys : List ℕ} {s t : Output} → ys ≡ xs → Appends xs s t → Appends ys s t
appends_as {xs} {ys} {s} {t} e p =
    record {
      bytes = p.bytes ∙ ap (sets s.bytes.now s.pos) (sym e);
      place = p.place ∙ ap (λ (z : List ℕ). s.pos + length z) (sym e);
      name = p.name;
    }

-- ---- the steps of a record, by its parts
abbrev pub opens : ℕ → List ℕ
opens kind = step_bytes (open_step kind 0 0)

abbrev pub closes : List ℕ
closes = step_bytes close_step

pub text_is : (t : List ℕ) → length t < 65536
    → steps_in (text_of t) ≡ opens TEXT ++ ((3 ∷ []) ++ (bytes2 (length t) ++ (bytes4 (length t % 4294967296) ++ (t ++ closes))))
unfolding tree_steps
text_is t h =
    let n : length t % 4294967296 ≡ length t = mod-eq_of_lt (omega arith) in
    rw n (ap (λ (x : List Step). opens TEXT ++ list_bytes (x ++ close_step ∷ [])) (text_steps TEXT (length t) t refl))

pub text_length : (t : List ℕ) → length (steps_in (text_of t)) ≡ length t + 18
unfolding tree_steps
text_length t =
    ap (λ (x : List Step). length (opens TEXT ++ list_bytes (x ++ close_step ∷ []))) (text_steps TEXT (length t) t refl)
    ∙ omega (arith, length-append t closes)

closed : (x : Plain) → list_bytes ((tree_steps x ++ []) ++ close_step ∷ []) ≡ steps_in x ++ closes
closed x = list_append (tree_steps x ++ []) (close_step ∷ []) ∙ ap (λ (z : List Step). list_bytes z ++ closes) (append-nil (tree_steps x))

one_child : (kind : ℕ) (x : Plain) → payload_steps kind [] ≡ [] → steps_in (node kind [] (x next done)) ≡ opens kind ++ (steps_in x ++ closes)
unfolding tree_steps
one_child kind x e = rw e (ap (λ (z : List ℕ). opens kind ++ z) (closed x))

three_closed : (x y z : List Step)
    → list_bytes ((x ++ (y ++ (z ++ []))) ++ close_step ∷ []) ≡ list_bytes x ++ (list_bytes y ++ (list_bytes z ++ closes))
three_closed x y z = simp (list_append, append-nil, append_assoc)

three_children : (kind : ℕ) (x y z : Plain) → payload_steps kind [] ≡ []
    → steps_in (node kind [] (x next y next z next done)) ≡ opens kind ++ (steps_in x ++ (steps_in y ++ (steps_in z ++ closes)))
unfolding tree_steps
three_children kind x y z e = rw e (ap (λ (u : List ℕ). opens kind ++ u) (three_closed (tree_steps x) (tree_steps y) (tree_steps z)))

pub path_is : (t : List ℕ) → steps_in (path_of t) ≡ opens PATH ++ (steps_in (text_of t) ++ closes)
path_is t = one_child PATH (text_of t) refl

pub path_bytes : (t : List ℕ) → length (steps_in (path_of t)) ≡ length t + 29
path_bytes t = ap length (path_is t) ∙ omega (arith, text_length t, length-append (steps_in (text_of t)) closes)

pub operator_is : (x : ℕ) → steps_in (operator_of x) ≡ opens 86 ++ ((4 ∷ []) ++ ((x ∷ []) ++ closes))
unfolding tree_steps
operator_is x = refl

pub type_is : steps_in u32 ≡ opens 41 ++ (steps_in (path_of (0x75 ∷ 0x33 ∷ 0x32 ∷ [])) ++ ((5 ∷ []) ++ closes))
unfolding tree_steps be16
type_is = refl

pub type_length : length (steps_in u32) ≡ 44
unfolding tree_steps be16
type_length = refl

pub a_is : formula_steps path ≡ opens PATH_EXPR ++ (steps_in (path_of (0x61 ∷ [])) ++ closes)
unfolding formula_steps record_of
a_is = one_child PATH_EXPR (path_of (0x61 ∷ [])) refl

pub negation_is : (f : Formula) → formula_steps (negation f) ≡ opens NEGATE ++ (formula_steps f ++ closes)
unfolding formula_steps record_of
negation_is f = one_child NEGATE (record_of f) refl

pub parentheses_is : (f : Formula) → formula_steps (parentheses f) ≡ opens PARENTHESES ++ (formula_steps f ++ closes)
unfolding formula_steps record_of
parentheses_is f = one_child PARENTHESES (record_of f) refl

pub binary_is : (o : Op) (l r : Formula)
    → formula_steps (binary o l r) ≡ opens BIN_OP ++ (formula_steps l ++ (steps_in (operator_of (place o)) ++ (formula_steps r ++ closes)))
unfolding formula_steps record_of
binary_is o l r = three_children BIN_OP (record_of l) (operator_of (place o)) (record_of r) refl

-- ---- the whole
whole_closed : (x : List Step)
    → list_bytes ((((x ++ []) ++ close_step ∷ []) ++ []) ++ close_step ∷ []) ≡ list_bytes x ++ (closes ++ closes)
whole_closed x = simp (list_append, append-nil, append_assoc)

-- up to the formula
abbrev pub opening : List ℕ
opening = opens 1 ++ ((5 ∷ []) ++ (opens 11 ++ (steps_in (text_of (0x63 ∷ [])) ++ steps_in u32)))

pub const_is : (f : Formula) → const_steps f ≡ opening ++ (formula_steps f ++ (closes ++ closes))
unfolding const_steps formula_steps tree_steps be16
const_is f = ap (λ (z : List ℕ). opening ++ z) (whole_closed (tree_steps (record_of f)))

pub const_done : (f : Formula) {o p q t u v w x y : Output} → Appends (opens 1) o p → Appends (5 ∷ []) p q → Appends (opens 11) q t
    → Appends (steps_in (text_of (0x63 ∷ []))) t u → Appends (steps_in u32) u v → Appends (formula_steps f) v w → Appends closes w x
    → Appends closes x y → Appends (const_steps f) o y
const_done f a b c d e g h i =
    appends_as (const_is f)
    (appends_join (appends_join a (appends_join b (appends_join c (appends_join d e)))) (appends_join g (appends_join h i)))

pub const_length : (f : Formula) → length (const_steps f) ≡ length (formula_steps f) + 86
unfolding tree_steps be16
const_length f = ap length (const_is f) ∙ omega (arith, length-append (formula_steps f) (closes ++ closes))

-- ---- the steps taken from where they were put
take_front : (ws rest : List ℕ) → take (length ws) (ws ++ rest) ≡ ws
take_front [] rest = refl
take_front (w ∷ ws) rest = ap (λ (z : List ℕ). w ∷ z) (take_front ws rest)

pub taken_back : (ws out o : List ℕ) (end : ℕ) → length ws ≤ length out → Puts ws 0 out end o → take end o ≡ ws
taken_back ws out o end h p =
    let z : 0 + length ws ≡ length ws = omega arith in
    ap₂ (λ (n : ℕ) (x : List ℕ). take n x) (p.place ∙ z) (p.output ∙ sets-eq ws out 0 (omega arith))
    ∙ take_front ws (drop (0 + length ws) out)
