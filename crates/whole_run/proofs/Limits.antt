-- What is laid out of an accepted image is within the limits: crates/layout_facts has it of the nodes that `fmt_parsed` gives, and layout gives their
-- rows.
-- Assumes nothing.
use mathlib.Core.Path.{◌≡◌, refl, sym, ap, subst, subst₂, ◌∙◌}
use mathlib.Core.Bool.{true, false}
use Rattle.std.specs.Prelude.{None}
use mathlib.Core.List.{List}
use Prim.Native.Nat.{ℕ, ◌+◌, ◌*◌, ◌≤◌}
use native.Mathlib.Omega.{arith}
use native.Mathlib.Nat.{zero-add}
use lib.ListN.{length, get_or, take, drop, take-append-drop}
use Rattle.text.specs.Utf8.{well_formed}
use Rattle.image.specs.Read.{Read, got, bad, Image, any_version, read_image, read_earlier, document_of, outcome, read_refusal, Accepts}
use Rattle.image.specs.declared.Document.{Document}
use Rattle.image.proofs.Accepted.{read_inside, accepted}
use Rattle.ast.specs.Syntax.{SyntaxTree}
use Rattle.rows.specs.Places.{PLACES}
use Rattle.rows.specs.Rows.{sizes, rows}
use Rattle.rows.proofs.Sizes.{length_rows}
use Rattle.rows.proofs.Flatten.{Holds}
use Rattle.acts.specs.Act.{Given, Out}
use Rattle.comments.specs.Listed.{given}
use Rattle.layout_facts.specs.Accepted.{Stands, Within}
use Rattle.layout_facts.proofs.Limits.{stands, closed_within, up_to_within, due_passes_by}
use Rattle.renderer_rules.specs.Check.{wrong_place_by}
use Rattle.cut_rule.specs.Rules.{LayoutResult}
use Rattle.cut_rule.specs.States.{LayoutState}
use Rattle.whole_run.specs.Parts.{accepted_tree, keeps_waiting}
use Rattle.node_widths.specs.Summed.{laid_nodes, str_columns}
use Rattle.whole_run.proofs.Laid.{laid_size}
use Rattle.whole_run.specs.Demands.{Gives, Limited, AllLimited}
use Rattle.whole_run.proofs.Whole.{fmt_parsed_lem}

module _ (s b : List ℕ) where
  abbrev g : Given
  g = given s b

  -- ---- the tree of an accepted image stands in it
  reads_image : length s ≤ 65536 → well_formed s ≡ true → read_earlier s b ≡ read_image any_version false s b
  reads_image = read_inside any_version false s b

  -- an accepted source and image have the tree at the answered offset
  pub standing : (d : Document) → Accepts s b d → Stands g (accepted_tree b (read_earlier s b)) d.tree
  standing d h =
      let a = accepted s b d h in
      let c = a.root in
      let n = d.comments in
      let at = d.tree in
      let same : read_earlier s b ≡ got (record { comments = n; tree = c.tree; at = at }) (length b) = reads_image a.short a.well ∙ c.whole in
      subst (λ (t : SyntaxTree). Stands g t at) (sym (ap (accepted_tree b) same)) (stands any_version false s b n at a.well c)

  -- where the tree of what was read stands
  pub record Stood (r : Read Image) : Type 0 where
    pub at : ℕ
    pub stood : Stands g (accepted_tree b r) at

  pub stood : read_refusal (read_earlier s b) ≡ None → Stood (read_earlier s b)
  stood h = go (read_earlier s b) refl h
    where
      go : (r : Read Image) → read_earlier s b ≡ r → read_refusal r ≡ None → Stood (read_earlier s b)
      go (bad n p) e h = let z : ◌≡◌ {A = ℕ} 0 1 = cc in absurd (omega arith)
      go (got i end) e h = record { at = i.at; stood = standing (document_of i) (record { answer = ap outcome e }) }

  -- ---- limits
  held : (l : List ℕ) → Holds l 0 l
  held l = record { at = λ k h. let e : 0 * PLACES + k ≡ k = omega arith in ap (λ (j : ℕ). get_or l j 0) e }

  limited : (chosen : ℕ) (r : Read Image) (a : Stood r) (o : Out) (l : LayoutResult LayoutState) → Gives chosen s b o l → Within g o → Limited s b l
  limited chosen r a o l e w =
      let ns = laid_nodes chosen s b o.nodes in
      let n : sizes o.nodes * PLACES ≤ length (rows ns 0) = omega (arith, length_rows ns 0, laid_size chosen s b o.nodes) in
      record {
        right =
            λ rule.
            subst₂ (λ (x : List ℕ) (k : ℕ). wrong_place_by rule s b x 0 k ≡ None) (sym e.rows_due_of) (zero-add (sizes o.nodes) ∙ sym e.row_due)
            (due_passes_by a.stood rule (str_columns chosen s b) w (rows ns 0) (held (rows ns 0)) n);
        rows_few = omega (arith, e.row_due, w.rows);
        numbers_few = omega (arith, e.number_due, w.numbers);
        position_in = omega (arith, e.position_due, w.position);
        placed_in = omega (arith, e.placed_due, w.placed);
      }

  -- a tree that stands in its image is laid within the limits, whatever way it was read
  pub limited_by : (r : Read Image) → Stood r → AllLimited r s b (accepted_tree b r)
  limited_by r a =
      let t = accepted_tree b r in
      let f = fmt_parsed_lem r s b in
      record {
        at_stop =
            λ k n i.
            limited k.rule r a _ _ (f.at_stop k n i)
            (up_to_within a.stood (take n t.declarations) (drop n t.declarations) (take-append-drop n t.declarations));
        closed = λ k. limited k.rule r a _ _ (f.closed_in k) (closed_within a.stood (keeps_waiting k.mode));
      }

  pub all_limited : read_refusal (read_earlier s b) ≡ None → AllLimited (read_earlier s b) s b (accepted_tree b (read_earlier s b))
  all_limited h = limited_by (read_earlier s b) (stood h)
