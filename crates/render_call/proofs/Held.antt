-- A renderer that is made of a state, and what its run comes to.
-- Assumes nothing.
use mathlib.Core.Path.{◌≡◌, sym, ap, subst, ◌∙◌}
use mathlib.Core.List.{List, [], ◌++◌, map}
use Prim.Native.Nat.{ℕ, ◌-◌, ◌≤◌, min}
use native.Mathlib.Omega.{arith}
use lib.ListN.{length, get_or, take, replicate, length-map}
use Rattle.rows.specs.Limits.{MAX_DEPTH}
use Rattle.rows.specs.View.{View, view_of}
use Rattle.renderer_rules.specs.Frames.{no_frame}
use Rattle.renderer_rules.specs.Renderer.{Page, with_widest, with_buf, fresh_renderer}
use Rattle.renderer_rules.specs.Listed.{resumed, listed_those}
use Rattle.renderer_rules.specs.Stops.{stop_at, ahead, meaning}
use Rattle.renderer.specs.declared.run.Renderer.{Renderer as Held}
use Rattle.node_widths.specs.Measured.{rule_page}
use Rattle.render_by_rule.specs.Halts.{HaltedBy}
use Rattle.listed_rows.specs.Numbers.{open_row, AllIn}
use Rattle.cut_rule.specs.States as states
use Rattle.whole_run.specs.Parts.{open_rows}
use Rattle.render_call.specs.Calls.{listed_of, to_state}
use Rattle.render_call.specs.Whole.{Runnable, Made, Halts, HaltsOn, rows_open}
use Rattle.render_call.specs.declared.RenderState.{RenderState}
use Rattle.render_call.specs.declared.RenderArgs.{RenderArgs}
use Rattle.render_call.proofs.Opening.{listed_few, listed_count, those_in}

module _ (source image : List ℕ) (state : RenderState) (args : RenderArgs) (store listed : List ℕ) (size : length listed ≡ 256)
    (x : Runnable source image (to_state state listed) args store) where
  pub few : state.listed_rows ≤ 256
  few = (let a = listed_count listed state.listed_rows in let b = x.few_listed in omega arith)

  same : listed_of state.listed_rows listed ≡ map open_row (take state.listed_rows listed)
  same = listed_few listed state.listed_rows (let f = few in omega arith)

  pub all_in : AllIn store (take state.listed_rows listed)
  all_in =
      those_in store (take state.listed_rows listed) state.row (let a = x.room in let b = x.ahead in omega arith)
      (sym (ap (λ l. listed_those (view_of store) l state.row) same) ∙ x.those)

  pub depth_is : length (take state.listed_rows listed) ≡ length (to_state state listed).listed
  depth_is = sym (length-map (take state.listed_rows listed) open_row) ∙ ap length (sym same)

  pub items_are : rows_open (view_of store) state.row (take state.listed_rows listed) ≡ open_rows (view_of store) (to_state state listed)
  items_are =
      ap (λ (m : ℕ). map (resumed (view_of store) state.row) (map open_row (take state.listed_rows listed)) ++ replicate (MAX_DEPTH - m) no_frame) depth_is
      ∙ ap (λ l. map (resumed (view_of store) state.row) l ++ replicate (MAX_DEPTH - length (to_state state listed).listed) no_frame) (sym same)

module _ (source image : List ℕ) (z : states.RenderState) (args : RenderArgs) (store : List ℕ) (r q : Held) (k : ℕ)
    (depth : r.frames.depth ≡ length z.listed) (items : r.frames.items ≡ open_rows (view_of store) z) (next : r.next ≡ z.row)
    (pen : r.writing.pen ≡ z.pen) (none : r.writing.widest.0 ≡ 0) where
  abbrev v : View
  v = view_of store

  abbrev pg : Page
  pg = rule_page args.width.0 args.rule source image

  pub halts_held : (store2 : List ℕ) → store2 ≡ store → HaltedBy (rule_page args.width.0 args.rule source image) (view_of store) args.stop args.allotment r q k
      → Halts source image z args store r.marks.now r.out.now (record { writing = q.writing; frames = q.frames; next = q.next; entered = k }) store2 q.marks.now
      q.out.now
  halts_held store2 e h =
      record {
        text = h.text;
        stops =
            h.stops
            ∙ (λ i.
            get_or (ahead v pg args.stop (items i) (depth i) (next i) (with_widest (none i) (with_buf [] (fresh_renderer (pen i) r.marks.now)))) args.allotment
            (stop_at args.stop []
            (meaning v pg args.stop (items i) (depth i) (next i) (with_widest (none i) (with_buf [] (fresh_renderer (pen i) r.marks.now))))));
        count =
            h.count
            ∙ (λ i.
            min args.allotment
            (length (ahead v pg args.stop (items i) (depth i) (next i) (with_widest (none i) (with_buf [] (fresh_renderer (pen i) r.marks.now))))));
        wrote = h.wrote;
        store_left_of = e;
        size = h.size;
        deep = h.deep;
        rows = h.rows;
      }

pub went_on : (source image : List ℕ) (z : states.RenderState) (args : RenderArgs) (store : List ℕ) (r q : Held) (k : ℕ)
    → Made source image z args store r → (store2 : List ℕ) → store2 ≡ store
    → HaltedBy (rule_page r.max.0 args.rule source image) (view_of store) args.stop args.allotment r q k
    → HaltsOn source image z args store r k store2 q
went_on source image z args store r q k m store2 e h =
    record {
      halts =
          halts_held source image z args store r q k m.depth m.items m.next m.pen m.widest store2 e
          (subst (λ (w : ℕ). HaltedBy (rule_page w args.rule source image) (view_of store) args.stop args.allotment r q k) m.max h);
      lent = h.lent;
    }

-- a renderer is made of the state
pub made_of : (source image : List ℕ) (state : RenderState) (args : RenderArgs) (store listed : List ℕ) → length listed ≡ 256
    → Runnable source image (to_state state listed) args store → (r : Held) → (r.frames.depth ≡ length (take state.listed_rows listed))
    → r.frames.items ≡ rows_open (view_of store) state.row (take state.listed_rows listed) → r.next ≡ state.row → r.writing.pen ≡ state.pen
    → r.writing.at.0 ≡ 0 → r.writing.widest.0 ≡ 0 → r.max.0 ≡ args.width.0 → Made source image (to_state state listed) args store r
made_of source image state args store listed s x r d i n p a w m =
    record {
      depth = d ∙ depth_is source image state args store listed s x;
      items = i ∙ items_are source image state args store listed s x;
      next = n;
      pen = p;
      nothing = a;
      widest = w;
      max = m;
    }
