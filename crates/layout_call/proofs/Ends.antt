-- A layout call by its ends: rule refused, source or image refused, state refused, too few rows, laid; where rows are counted first, and where not.
-- Assumes nothing.
use mathlib.Core.Path.{◌≡◌, refl, sym, ap, ap₂, ◌∙◌}
use mathlib.Core.Bool.{Bool, true, false, not, cond}
use Rattle.std.specs.Prelude.{Option, None, Some, Result, Ok, Err}
use mathlib.Core.List.{List, [], ◌∷◌}
use Prim.Native.Nat.{ℕ, ◌+◌, ◌-◌, ◌*◌, ◌≤◌, ◌<◌}
use native.Mathlib.Omega.{arith}
use lib.ListN.{length, take, drop}
use lib.Seq.{sets, length-sets}
use lib.Dec.{ltb, eqb}
use borrow.Author.Tests.{lt-ltb, le-ltb, ltb-false, not-true, not-false}
use Rattle.rows.specs.Places.{PLACES}
use Rattle.image.specs.Read.{read_all, read_earlier, read_refusal, Accepts}
use Rattle.image.specs.declared.Document.{Document}
use Rattle.image.proofs.Earlier.{refusal_by}
use Rattle.rows.specs.Node.{Nodes}
use Rattle.rows.specs.Rows.{sizes, rows}
use Rattle.rows.proofs.Sizes.{length_rows}
use Rattle.acts.specs.Act.{Act}
use Rattle.acts.specs.Laid.{st, Laid}
use Rattle.acts.specs.declared.Cursor.{Cursor}
use Rattle.tree.specs.CommentList.{comments_of}
use Rattle.comments.specs.Listed.{given}
use Rattle.layout_facts.proofs.InOrder.{places_call}
use Rattle.cut_rule.specs.Rules as cut
use Rattle.refusals.specs.Refusals.{Refusal, unless, any, first, refuse_if}
use Rattle.refusals.specs.Answers.{refused, accepted, answer_by}
use Rattle.refusals.proofs.Groups.{refuses_left, left_to}
use Rattle.cut_rule.specs.Run.{write_at, CallResult, laid_out}
use Rattle.cut_rule.specs.States as states
use Rattle.cut_rule.specs.Tests.{rows_in, layout_tests_in}
use Rattle.cut_rule.specs.Parts.{Piece, rule_line, before_rows, rows_line, layout_table, rows_needed, call_piece, laid_of}
use Rattle.cut_rule.proofs.Memory.{write_sets}
use Rattle.cut_rule.proofs.Table.{LayoutFits, layout_fits}
use Rattle.whole_run.specs.Parts.{other_rule, keeps_waiting, parts_of, act_piece}
use Rattle.whole_run.specs.Demands.{rules_of}
use Rattle.whole_run.specs.Built.{tree, declared}
use Rattle.whole_run.proofs.Whole.{call_piece_lem}
use Rattle.whole_run.proofs.Laid.{laid_size}
use Rattle.node_widths.specs.Summed.{str_columns, laid_nodes}
use Rattle.row_widths.specs.Passes.{pass, row_summed}
use Rattle.row_widths.proofs.Summing.{summed_rows}
use Rattle.layout_call.specs.Calls.{to_state, to_args, laying_answer}
use Rattle.layout_call.specs.Whole.{LayoutCalled, LaidAtOnce, left_by}
use Rattle.layout_call.specs.Steps.{RuleFits, Reads, unfit, Goes, StateFits, from_of, missing, call_act}
use Rattle.layout_call.specs.declared.LayoutState.{LayoutState}
use Rattle.layout_call.specs.declared.LayoutArgs.{LayoutArgs}
use Rattle.layout_call.specs.declared.Laid as declared
use Rattle.refusals.specs.Reasons.{refusal}
use Rattle.refusals.specs.declared.Refused.{Refused}
use Rattle.refusals.specs.declared.Reason.TheVariants as reason
use Rattle.layout_call.proofs.Standing.{comments_count}

module _ (s b : List ℕ) (state : LayoutState) (q : LayoutArgs) (store : List ℕ) where
  abbrev before : List (Option Refusal)
  before = before_rows (parts_of s b) (to_args q) (to_state state) store

  abbrev behind : List (Option Refusal)
  behind = rows_line (parts_of s b) (to_args q) (to_state state) store

  abbrev table : Option Refusal
  table = first (layout_table (parts_of s b) (to_args q) (to_state state) store)

  abbrev gives : cut.LayoutResult states.LayoutState
  gives = laid_of (parts_of s b) (to_state state) (to_args q)

  abbrev refuses : Bool
  refuses = unfit s b state q store

  abbrev needed : ℕ
  needed = rows_needed (parts_of s b) (to_args q) (to_state state)

  -- what the entry's reading refuses
  abbrev unread : Option Refusal
  unread = cond q.archive (read_refusal (read_earlier s b)) (read_refusal (read_all s b))

  -- the lines before 8, and 8 where these let pass
  before_from : (o : Option Refusal) → rule_line (other_rule b q.rule) q.rule ≡ o → first before ≡ first (o ∷ unread ∷ refuse_if refuses 12 0 ∷ [])
  before_from o e = ap (λ (x : Option Refusal). first (x ∷ unread ∷ refuse_if refuses 12 0 ∷ [])) e

  before_by : (t : Bool) → RuleFits s b q.rule → Reads s b q.archive → refuses ≡ t → first before ≡ first (refuse_if t 12 0 ∷ [])
  before_by t g e f =
      before_from None g
      ∙ ap₂ (λ (x : Option Refusal) (y : Bool). first (x ∷ refuse_if y 12 0 ∷ [])) (sym (refusal_by q.archive s b) ∙ e) f

  behind_by : (u : Bool) (n : ℕ) → needed ≡ n → ltb (rows_in store) n ≡ u → first behind ≡ first (refuse_if u 8 n ∷ [])
  behind_by u n g h =
      ap (λ (x : ℕ). first (refuse_if (ltb (rows_in store) x) 8 x ∷ [])) g ∙ ap (λ (x : Bool). first (refuse_if x 8 n ∷ [])) h

  rows_by : (u : Bool) (n : ℕ) → first before ≡ None → needed ≡ n → ltb (rows_in store) n ≡ u → table ≡ first (refuse_if u 8 n ∷ [])
  rows_by u n e g h = left_to before behind e ∙ behind_by u n g h

  refused_by : (r : Refusal) (x : Result declared.Laid Refused) → table ≡ Some r → laying_answer s b x ≡ refused r → LayoutCalled s b state q store x store
  refused_by r x e f =
      record {
        answer = f ∙ ap (λ (t : Option Refusal). answer_by {A = CallResult (rules_of s b)} t (laid_out gives.state gives.left)) (sym e);
        store_left_of = ap (λ (t : Option Refusal). unless t store (write_at (PLACES * state.row) gives.rows store)) (sym e);
      }

  -- what stands in a store for which no rows are counted
  abbrev stored_by : Option Refusal → Option Refusal → List ℕ
  stored_by = left_by s b state q store

  -- so, by what the test of the state answers, 12 refuses it or lets it pass
  pub fits_unless : RuleFits s b q.rule → Reads s b q.archive → (x : Bool) → x ≡ not refuses → x ≡ true → StateFits s b state q store
  fits_unless g r x e h = record { chosen = g; read = r; tested = not-true refuses (sym e ∙ h) }

  -- 12
  pub ends_unfit : RuleFits s b q.rule → Reads s b q.archive → (x : Bool) → x ≡ not refuses → x ≡ false
      → LayoutCalled s b state q store (Err (record { reason = reason.State; place = 0 })) store
  ends_unfit g r x e h = refused_by _ _ (refuses_left _ before behind (before_by true g r (not-false refuses (sym e ∙ h)))) refl

  -- the same where no rows are counted
  pub at_once_unfit : RuleFits s b q.rule → Reads s b q.archive → (x : Bool) → x ≡ not refuses → x ≡ false
      → LaidAtOnce s b state q store (Err (record { reason = reason.State; place = 0 })) store
  at_once_unfit g r x e h =
      record {
        answer = (ends_unfit g r x e h).answer;
        store_left_of = sym (ap (λ (o : Option Refusal). stored_by o (first behind)) (before_by true g r (not-false refuses (sym e ∙ h))));
      }

  module _ {d : Document} (a : Accepts s b d) where
    -- what the test of the state answers, by how much there is of all
    pub fits_told : (x : Bool) (declarations : ℕ) → declarations ≡ length (declared s b)
        → x ≡ not (any (layout_tests_in declarations d.comments (length s) (rows_in store) (to_args q) (to_state state))) → x ≡ not refuses
    fits_told x declarations e f = rw (sym e, comments_count a) f

    module _ (fits : StateFits s b state q store) where
      passes : first before ≡ None
      passes = before_by false fits.chosen fits.read fits.tested

      told : LayoutFits (length (declared s b)) (length (comments_of b)) (length s) (rows_in store) (to_args q) (to_state state)
      told = layout_fits (length (declared s b)) (length (comments_of b)) (length s) (rows_in store) (to_args q) (to_state state) fits.tested

      ahead : state.declaration ≤ q.stop
      ahead = told.stop.from

      within : q.stop ≤ length (declared s b)
      within = told.stop.to

      -- the call goes on, and its numbers are small
      pub goes : Goes s b d state q
      goes = record {
        ahead = ahead;
        within = within;
        row = told.limits.row;
        number = told.limits.number;
        placed = omega (arith, told.places.placed, comments_count a);
        position = told.places.position;
      }

      -- what is due, by the rules
      abbrev act : Act
      act = call_act s b state q

      abbrev from : Cursor
      from = from_of state

      due : call_piece (parts_of s b) (to_state state) (to_args q) ≡ act_piece q.rule s b act (to_state state).cursor
      due = call_piece_lem (read_earlier s b) s b (to_state state) (to_args q) ahead within

      pub needed_is : needed ≡ state.row + sizes (act (st from)).nodes
      needed_is = ap (λ (p : Piece). p.cursor.row) due

      -- 8, by what the count answers
      abbrev lacks : Option ℕ
      lacks = missing (rows_in store) (state.row + sizes (act (st from)).nodes)

      pub ends_short : (m : ℕ) → Some m ≡ lacks → LayoutCalled s b state q store (Err (record { reason = reason.RowsNeeded; place = m })) store
      ends_short m e = go (ltb (rows_in store) needed) refl (e ∙ ap (missing (rows_in store)) (sym needed_is))
        where
          go : (t : Bool) → ltb (rows_in store) needed ≡ t → Some m ≡ cond t (Some needed) None
              → LayoutCalled s b state q store (Err (record { reason = reason.RowsNeeded; place = m })) store
          go true h f = let same : m ≡ needed = cc in refused_by _ _ (rows_by true m passes (sym same) (ap (ltb (rows_in store)) same ∙ h)) refl
          go false h f = absurd (cc)

      is_roomy : None ≡ lacks → needed ≤ rows_in store
      is_roomy e = go (ltb (rows_in store) needed) refl (e ∙ ap (missing (rows_in store)) (sym needed_is))
        where
          go : (t : Bool) → ltb (rows_in store) needed ≡ t → None ≡ cond t (Some needed) None → needed ≤ rows_in store
          go true h f = absurd (cc)
          go false h f = ltb-false (rows_in store) needed h

      -- with the rows there, laying at once is what the call does
      roomy_called : needed ≤ rows_in store → (r : Result declared.Laid Refused) (store2 : List ℕ) → LaidAtOnce s b state q store r store2
          → LayoutCalled s b state q store r store2
      roomy_called h (Ok t) store2 once =
          record {
            answer = once.answer;
            store_left_of = once.store_left_of ∙ ap₂ stored_by passes (behind_by false needed refl (le-ltb (rows_in store) needed h));
          }
      roomy_called h (Err r) store2 once =
          let passed : table ≡ None = rows_by false needed passes refl (le-ltb (rows_in store) needed h) in
          let laid_out_due : refused (refusal r) ≡ accepted (laid_out gives.state gives.left) =
          once.answer ∙ ap (λ (z : Option Refusal). answer_by {A = CallResult (rules_of s b)} z (laid_out gives.state gives.left)) passed
          in
          absurd (cc laid_out_due)

      pub counted_called : None ≡ lacks → (r : Result declared.Laid Refused) (store2 : List ℕ) → LaidAtOnce s b state q store r store2
          → LayoutCalled s b state q store r store2
      counted_called e = roomy_called (is_roomy e)

      module _ (store2 : List ℕ) (e : Cursor) (laid : Laid act store from store2 e) where
        -- so no difference falls under 0
        pub placed_in : e.placed ≤ d.comments
        placed_in =
            let g = given s b in
            let ds = take (q.stop - state.declaration) (drop state.declaration (declared s b)) in
            let w = (places_call g (tree s b) (not state.begun) ds (eqb state.declaration 0) q.close
            (keeps_waiting q.mode)
            ).from (st from)
            (omega (arith, goes.placed, comments_count a))
            in
            omega (arith, ap (λ (c : Cursor). c.placed) laid.moved, w.within, comments_count a)

        abbrev ns : Nodes
        ns = (act (st from)).nodes

        -- the row behind what was laid is the row behind what is due, whatever the store has room for
        rows_laid : e.row ≡ state.row + sizes ns
        rows_laid = ap (λ (c : Cursor). c.row) laid.moved

        needed_laid : needed ≡ e.row
        needed_laid = needed_is ∙ sym rows_laid

        -- 8, by that row
        pub ends_past : rows_in store < e.row → LaidAtOnce s b state q store (Err (record { reason = reason.RowsNeeded; place = e.row })) store2
        ends_past h =
            let short = lt-ltb (rows_in store) e.row h in
            let why : Refused = record { reason = reason.RowsNeeded; place = e.row } in
            record {
              answer =
                  (refused_by (refusal why) (Err why) (rows_by true e.row passes needed_laid short) refl).answer;
              store_left_of = laid.stored ∙ sym (ap₂ stored_by passes (behind_by true e.row needed_laid short));
            }

        module _ (roomy : e.row ≤ rows_in store) where
          none_left : table ≡ None
          none_left = rows_by false e.row passes needed_laid (le-ltb (rows_in store) e.row roomy)

          none_behind : first behind ≡ None
          none_behind = behind_by false e.row needed_laid (le-ltb (rows_in store) e.row roomy)

          room : (state.row + sizes ns) * PLACES ≤ length store
          room = omega (arith, rows_laid, roomy)

          -- the sums that are put into the rows
          pub sums_within : e.row * PLACES ≤ length store2
          sums_within =
              let l = length-sets store (PLACES * state.row) (rows ns state.row) in
              omega (arith, ap length laid.stored, rows_laid, room)

          abbrev sums : List ℕ
          sums = pass (row_summed (str_columns q.rule s b)) (e.row - state.row) store2 state.row

          summed : sums ≡ sets store (PLACES * state.row) (rows (laid_nodes q.rule s b ns) state.row)
          summed =
              ap₂ (λ (n : ℕ) (l : List ℕ). pass (row_summed (str_columns q.rule s b)) n l state.row) (omega (arith, rows_laid)) laid.stored
              ∙ summed_rows (str_columns q.rule s b) ns store state.row room

          stored : sums ≡ write_at (PLACES * state.row) gives.rows store
          stored =
              summed
              ∙ sym (write_sets (PLACES * state.row) (rows (laid_nodes q.rule s b ns) state.row) store
              (let l = length_rows (laid_nodes q.rule s b ns) state.row in omega (arith, laid_size q.rule s b ns, room)))
              ∙ ap (λ (p : Piece). write_at (PLACES * state.row) p.rows store) (sym due)

          pub ends_laid : (store3 : List ℕ) → store3 ≡ sums → (t : LayoutState) (left : ℕ)
              → t.begun ≡ true → t.closed ≡ q.close → t.declaration ≡ q.stop → t.row ≡ e.row
              → t.number ≡ e.number
              → t.placed ≡ e.placed
              → t.position ≡ e.pos
              → t.mode ≡ q.mode
              → t.rule ≡ q.rule
              → left ≡ d.comments - e.placed
              → LaidAtOnce s b state q store (Ok (record { state = t; left = left })) store3
          ends_laid store3 summed_as t left q1 q2 q3 q4 q5 q6 q7 q8 q9 q10 =
              record {
                answer =
                    (λ i. accepted (laid_out (same_state i) (same_left i)))
                    ∙ ap (λ (z : Option Refusal). answer_by {A = CallResult (rules_of s b)} z (laid_out gives.state gives.left)) (sym none_left);
                store_left_of =
                    summed_as
                    ∙ stored
                    ∙ ap (λ (z : Option Refusal). unless z store (write_at (PLACES * state.row) gives.rows store)) (sym none_left)
                    ∙ sym (ap₂ stored_by passes none_behind);
              }
            where
              same_state : to_state t ≡ gives.state
              same_state =
                  rw (q1, q2, q3, q4, q5, q6, q7, q8, q9, laid.moved)
                  (ap (λ (p : Piece). record { begun = true; closed = q.close; declaration = q.stop; cursor = p.cursor; mode = q.mode; rule = q.rule })
                  (sym due))

              same_left : left ≡ gives.left
              same_left =
                  rw (q10, laid.moved)
                  (ap₂ (λ (m k : ℕ). m - k) (sym (comments_count a)) (ap (λ (p : Piece). p.cursor.placed) (sym due)))
