-- The steps of a rendering call: what each may ask for, and what they come to.
-- Assumes nothing.
use mathlib.Core.Path.{◌≡◌, refl, sym, ap, subst, ◌∙◌}
use mathlib.Core.Bool.{true}
use mathlib.Core.List.{List, [], map}
use Prim.Native.Nat.{ℕ, ◌+◌, ◌*◌, ◌-◌, ◌≤◌, ◌<◌, max}
use native.Mathlib.Omega.{arith}
use Rattle.std.specs.Prelude.{Result, Ok, Err}
use lib.ListN.{length, get_or, drop}
use Rattle.rows.specs.Limits.{MAX_DEPTH}
use Rattle.rows.specs.Places.{PLACES}
use Rattle.rows.specs.View.{View, view_of, nodes_at}
use Rattle.rows.specs.declared.units.Bytes.{Bytes}
use Rattle.renderer_rules.specs.declared.Frame.{Frame}
use Rattle.renderer_rules.specs.Renderer.{Page, Renderer, render_nodes}
use Rattle.renderer_rules.specs.Frames.{part_limit, wrap_at}
use Rattle.renderer_rules.specs.Stops.{listed_rows, rest, meaning}
use Rattle.node_widths.specs.Measured.{ascii_columns}
use Rattle.renderer_rules.proofs.Most.{text_most}
use Rattle.listed_rows.specs.Numbers.{row_number}
use Rattle.cut_rule.specs.Run.{write_front}
use Rattle.cut_rule.specs.States as states
use Rattle.cut_rule.specs.Parts.{read_from}
use Rattle.renderer_rules.specs.Listed.{reads_from}
use Rattle.marks.specs.Marks.{marks_needed, clear_from, held, put_aside, put_back}
use Rattle.whole_run.specs.Parts.{renderer_of, page, open_rows}
use Rattle.whole_run.proofs.StopsKeep.{stop_keeps}
use Rattle.whole_run.proofs.StopsGrow.{AnyNumber, Grows, any_nodes, text_kept}
use Rattle.refusals.specs.declared.Reason.TheVariants as reason
use Rattle.refusals.specs.declared.Refused.{Refused}
use Rattle.refusals.specs.Reasons.{refusal_in}
use Rattle.render_call.specs.Calls.{goes_to, early_refusal}
use Rattle.render_call.specs.Whole.{RenderCalled, Draws, Counted, Passing, Fitting, Runnable, Halts, most_of}
use Rattle.render_call.specs.declared.RenderArgs.{RenderArgs}
use Rattle.render_call.specs.declared.run.Halt.{Halt}
use Rattle.render_call.proofs.Accepted.{Accepted, accepted, in_order, nests, runnable}
use Rattle.render_call.proofs.Resumes.{low, at_open, all_lie}
use Rattle.render_call.proofs.Early.{refused_early}
use Rattle.render_call.proofs.Ran.{marks_in_use}
use Rattle.render_call.proofs.Dry as dry
use Rattle.render_call.proofs.Finish.{size_is, finished}
use Rattle.render_call.proofs.Whole.{ends_early, ends_full}

-- where no row is open, all up to the stop is rendered as nodes
no_open : (v : View) (pg : Page) (stop : ℕ) (fs : List Frame) (d i : ℕ) (s : Renderer) → d ≡ 0
    → meaning v pg stop fs d i s ≡ render_nodes pg (nodes_at v i stop) true s
unfolding meaning rest part_limit wrap_at
no_open v pg stop fs d i s e = ap (λ (n : ℕ). meaning v pg stop fs n i s) e

module _ (source image : List ℕ) (z : states.RenderState) (args : RenderArgs) (store marks : List ℕ) (h : Passing source image z args store marks) where
  pub may : Accepted source image z args store marks
  may = accepted source image z args store marks h.passes

  pub rows_within : args.stop * PLACES ≤ length store
  rows_within = may.within

  -- ---- a sum over the rows shows that the text has room
  pub fits_most : (out : List ℕ) (n : ℕ) → z.listed ≡ [] → n ≡ most_of z args store → n ≤ length out → Fitting source image z args store marks out
  fits_most out n e f l =
      let v = view_of store in
      let pg = page (goes_to args).choice source image in
      let s = renderer_of z.pen (marks_in_use source image z args store marks may) in
      let x = runnable source image z args store marks may in
      let at = at_open source image z args store x in
      let k =
      stop_keeps v pg AnyNumber Grows (text_kept pg) (read_from z) args.stop (λ i j a b. any_nodes (nodes_at v i j)) (λ i a b c. tt) (open_rows v z)
      (length z.listed) z.row args.allotment s at.under at.low (low source image z args store x) (all_lie source image z args store x)
      in
      let m =
      text_most args.width.0 (ascii_columns args.rule source image) source image (nodes_at v (read_from z) args.stop) (z.pen.indent + z.pen.next_indent)
      true
      s
      refl
      refl
      in
      let none : length z.listed ≡ 0 = ap length e in
      let same = ap (λ (r : Renderer). length r.buf) (no_open v pg args.stop (open_rows v z) (length z.listed) z.row s none) in
      let row : read_from z ≡ z.row = ap (λ ls. reads_from ls z.row) e in
      let most = subst (λ (i : ℕ). length (render_nodes pg (nodes_at v i args.stop) true s).buf ≤ most_of z args store) row m in
      record { passing = h; room = below k.behind.text same most f l }
    where
      below : {a b c d n : ℕ} → a ≤ b → b ≡ c → c ≤ d → n ≡ d → n ≤ length out → a ≤ length out
      below p q r s t = omega arith

  -- ---- the dry run
  module _ (rows2 marks2 : List ℕ) (e : held rows2 marks2 ≡ put_aside (args.stop - read_from z) z.in_use (held store marks) (read_from z)) where
    pub dry_runs : Runnable source image z args rows2
    dry_runs = dry.aside_runs source image z args store marks may rows2 marks2 e

    pub back_within : (read_from z ≤ args.stop) × (args.stop * PLACES ≤ length rows2)
    back_within =
        let l = dry.aside_rows source image z args store marks may rows2 marks2 e in
        let w = may.within in
        (in_order source image z args store marks may, omega arith)

    pub dry_ends : (q : Halt) → ((k : ℕ) → get_or marks k 0 < 256) → (rows3 marks3 out3 rows4 marks4 : List ℕ)
        → Halts source image z args rows2 marks2 [] q rows3 marks3 out3
        → held rows4 marks4 ≡ put_back (args.stop - read_from z) (held rows3 marks3) (read_from z)
        → Counted source image z args store marks q.writing.at rows4 marks4
    dry_ends q b rows3 marks3 out3 rows4 marks4 r f =
        dry.counted source image z args store marks may rows2 marks2 e q (record { at = b }) rows3 marks3 out3 rows4 marks4 r f

  -- too long a text
  pub ends_ten : (out listed : List ℕ) (n : Bytes) (store2 marks2 : List ℕ) → Counted source image z args store marks n store2 marks2
      → length out < n.0
      → (r : Refused)
      → r ≡ record { reason = reason.BytesNeeded; place = n.0 }
      → Draws source image z args store marks out listed (Err r) store2 marks2 out listed
  ends_ten out listed n store2 marks2 c l r f =
      rw (f, c.store_left_of, c.marks_left_of) (ends_full source image z args store marks out listed n.0 h.passes c.bytes l)

  -- room for it: the true run, over what the dry run left
  module _ (n : Bytes) (store2 marks2 : List ℕ) (c : Counted source image z args store marks n store2 marks2) where
    pub has_room : (out : List ℕ) → n.0 ≤ length out → Fitting source image z args store2 marks2 out
    has_room out l = rw (c.store_left_of, c.marks_left_of) (record { passing = h; room = let b = c.bytes in omega arith })

-- ---- the true run
module _ (source image : List ℕ) (z : states.RenderState) (args : RenderArgs)
    (store marks out listed : List ℕ) (h : Fitting source image z args store marks out) where
  fine : Accepted source image z args store marks
  fine = accepted source image z args store marks h.passing.passes

  pub marks_within : (n : ℕ) → n ≡ marks_needed (args.stop - read_from z) store (read_from z) → n ≤ length marks
  marks_within n e = let w = fine.enough in omega arith

  pub run_may : Runnable source image z args store
  run_may = runnable source image z args store marks fine

  pub run_ends : (q : Halt) (n : ℕ) → n ≡ marks_needed (args.stop - read_from z) store (read_from z) → (marks2 : List ℕ)
      → marks2 ≡ clear_from (n - z.in_use) z.in_use marks
      → (store3 marks3 out3 listed3 : List ℕ)
      → Halts source image z args store marks2 out q store3 marks3 out3
      → length listed ≡ MAX_DEPTH
      → listed3 ≡ write_front (map row_number (listed_rows q.frames.items q.frames.depth)) listed
      → (used : ℕ)
      → used ≡ max z.in_use n
      → Draws source image z args store marks out listed
      (Ok (record {
        written = record {
          state = record {
            pen = q.writing.pen;
            in_use = used;
            row = q.next;
            width = args.width;
            rule = args.rule;
            listed_rows = q.frames.depth;
          };
          bytes = q.writing.at;
          entered = q.entered;
        };
        widest = q.writing.widest;
      }))
      store3
      marks3
      out3
      listed3
  run_ends q n e marks2 f store3 marks3 out3 listed3 r size l used g =
      let over = f ∙ ap (λ (y : ℕ). clear_from (y - z.in_use) z.in_use marks) e ∙ dry.cleared_whole source image z args store marks fine in
      let ran = subst (λ (m : List ℕ). Halts source image z args store m out q store3 marks3 out3) over r in
      let past = drop (length (marks_in_use source image z args store marks fine)) marks in
      let sized = size_is source image z args store marks fine out q store3 marks3 out3 past ran in
      let room = h.room in
      rw r.store_left_of
      (finished source image z args store marks fine out listed q store3 marks3 out3 listed3 ran size l used h.passing.passes (g ∙ ap (max z.in_use) e)
      (omega arith))

-- refused by the first tests
pub refused_by : {A : Type 0} (source image : List ℕ) (z : states.RenderState) (args : RenderArgs) (store marks out listed : List ℕ) (r : Result A Refused)
    → refusal_in r ≡ early_refusal source image args z store marks → (e : Refused) → r ≡ Err e
    → RenderCalled source image z args store marks out listed (Err e) store marks out listed
refused_by {A} source image z args store marks out listed r f e g =
    (ends_early source image z args store marks out listed e
    (refused_early source image z args store marks _ (sym f ∙ ap refusal_in g))).called
