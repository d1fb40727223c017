-- A row that may have parts, and has a text or a width, isn't right.
-- Assumes nothing.
use mathlib.Core.Path.{◌≡◌, refl, sym, ◌∙◌}
use Prim.Native.Nat.{ℕ, ◌+◌}
use native.Mathlib.Omega.{arith}
use mathlib.Core.Bool.{Bool, true, false, ◌&&◌, ◌||◌}
use borrow.Author.Tests.{eqb-true, eq-eqb}
use Rattle.laws.proofs.Booleans.{true_false}
use mathlib.Core.List.{List}
use lib.Dec.{eqb}
use Rattle.rows.specs.Kinds.{number_of}
use Rattle.rows.specs.Places.{KIND, NUMBER, SECOND_NUMBER, SECOND, ORIGIN, START, SIZE, WIDTH}
use Rattle.rows.specs.View.{cell, view_of}
use Rattle.rows.specs.declared.kinds.Kind.{Kind}
use Rattle.rows.specs.declared.kinds.Kind.TheVariants as kinds
use Rattle.renderer_rules.specs.Check.{parts_fit, places_fit, uses_number, uses_number2, uses_second, uses_text, uses_width}
use Rattle.rowcheck.specs.Shape.{is_leaf, no_text, shape_fits}

and_false : (a b : Bool) → b ≡ false → (a && b) ≡ false
and_false true b e = e
and_false false b e = refl

-- of four places whose sum is not 0 one is not 0
some_place : (o t z w : ℕ) → eqb (o + t + z + w) 0 ≡ false → (eqb w 0 && (eqb o 0 && (eqb t 0 && eqb z 0))) ≡ false
some_place o t z w e = go (eqb w 0) (eqb o 0) (eqb t 0) (eqb z 0) refl refl refl refl
  where
    go : (a b c d : Bool) → eqb w 0 ≡ a → eqb o 0 ≡ b → eqb t 0 ≡ c → eqb z 0 ≡ d → (a && (b && (c && d))) ≡ false
    go true true true true p q r u =
        let w0 = eqb-true w 0 p in
        let o0 = eqb-true o 0 q in
        let t0 = eqb-true t 0 r in
        let z0 = eqb-true z 0 u in
        absurd (true_false (sym (eq-eqb (o + t + z + w) 0 (omega arith)) ∙ e))
    go true true true false p q r u = refl
    go true true false d p q r u = refl
    go true false c d p q r u = refl
    go false b c d p q r u = refl

module _ (source image s : List ℕ) (i : ℕ) (none : no_text s i ≡ false) where
  module _ (k : ℕ) (e : cell s i KIND ≡ k) (w : uses_width k ≡ false) (t : uses_text k ≡ false) where
    abbrev numbers : Bool
    numbers =
        (uses_number k || eqb (cell s i NUMBER) 0) && ((uses_number2 k || eqb (cell s i SECOND_NUMBER) 0) && (uses_second k || eqb (cell s i SECOND) 0))

    wrong : false ≡ shape_fits source image s i
    unfolding places_fit
    wrong =
        let bare = some_place (cell s i ORIGIN) (cell s i START) (cell s i SIZE) (cell s i WIDTH) none in
        sym (and_false (parts_fit (view_of s) i (cell s i KIND)) _ (rw (e, t, w) (and_false numbers _ bare)))

  pub node_wrong : (kind : Kind) → is_leaf (number_of kind) ≡ false → cell s i KIND ≡ number_of kind → false ≡ shape_fits source image s i
  node_wrong kinds.Group l e = wrong (number_of kinds.Group) e refl refl
  node_wrong kinds.Indent l e = wrong (number_of kinds.Indent) e refl refl
  node_wrong kinds.IndentNext l e = wrong (number_of kinds.IndentNext) e refl refl
  node_wrong kinds.WrapParent l e = absurd (cc)
  node_wrong kinds.Comment l e = absurd (cc)
  node_wrong kinds.Str l e = absurd (cc)
  node_wrong kinds.Ascii l e = absurd (cc)
  node_wrong kinds.Line l e = absurd (cc)
  node_wrong kinds.EmptyLine l e = absurd (cc)
  node_wrong kinds.LineOrSpace l e = absurd (cc)
  node_wrong kinds.IfWrap l e = wrong (number_of kinds.IfWrap) e refl refl
  node_wrong kinds.Call l e = wrong (number_of kinds.Call) e refl refl
