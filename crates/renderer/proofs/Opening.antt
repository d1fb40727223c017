-- A row that the code opened, told by the row's places.
-- Assumes nothing.
use mathlib.Core.Path.{◌≡◌, ap, ◌∙◌}
use Prim.Native.Nat.{ℕ, ◌+◌}
use mathlib.Core.Bool.{Bool, true, not, ◌&&◌}
use mathlib.Core.List.{List, []}
use Rattle.rows.specs.Places.{NUMBER, SECOND, AFTER}
use Rattle.rows.specs.View.{view_of, cell, nodes_at}
use Rattle.rows.specs.Nesting.{Nested}
use Rattle.renderer_rules.specs.Page.{page_of}
use Rattle.renderer_rules.specs.Renderer.{fresh_renderer, trailing_call, callee_wraps, next_indent_more}
use Rattle.renderer_rules.specs.Machine.{call_frame}
use Rattle.renderer_rules.specs.declared.Pen.{Pen}
use Rattle.renderer.specs.declared.writing.Writing.{Writing}
use Rattle.renderer.specs.Writing.{set_pen}
use Rattle.renderer.specs.Run.{Running, opened_run, inserted, CallOpened}

pub nested_to : (store : List ℕ) (from to to2 : ℕ) → to ≡ to2 → Nested store from to2 → Nested store from to
nested_to store from to to2 e n = rw e n

pub nested_at : (store : List ℕ) (from to from2 to2 : ℕ) → from ≡ from2 → to ≡ to2 → Nested store from2 to2 → Nested store from to
nested_at store from to from2 to2 e f n = rw (e, f) n

-- a run with another pen
abbrev pub pen_set : Pen → Running → Running
pen_set p r = record { frames = r.frames; depth = r.depth; next = r.next; writing = set_pen p r.writing }

module _ (store : List ℕ) (max : ℕ) (marks : List ℕ) (r : Running) (marks2 : List ℕ) (q : Running) where
  pub call_opened : (mid end number : ℕ) (t w deeper : Bool) (p : Pen) (x : Writing) → mid ≡ cell store r.next SECOND → end ≡ cell store r.next AFTER
      → number ≡ cell store r.next NUMBER
      → t
      ≡ trailing_call (page_of max [] []) (nodes_at (view_of store) (r.next + 1) mid) (nodes_at (view_of store) mid end)
      (fresh_renderer r.writing.pen marks)
      → w
      ≡ callee_wraps (page_of max [] []) t (nodes_at (view_of store) (r.next + 1) mid) (nodes_at (view_of store) mid end)
      (fresh_renderer r.writing.pen marks)
      → deeper ≡ (not t && w)
      → p ≡ next_indent_more deeper r.writing.pen
      → x ≡ set_pen p r.writing
      → marks2 ≡ inserted w number marks
      → q ≡ opened_run r (call_frame r.next w true deeper (not t)) (r.next + 1) x
      → CallOpened store max marks r marks2 q
  call_opened mid end number t w deeper p x a b n g h d k s m o =
      record {
        trails = t;
        wraps = w;
        is_trails = g ∙ rw (a, b);
        is_wraps = h ∙ rw (a, b);
        run = o ∙ rw (s, k, d);
        marked = m ∙ ap (λ (x : ℕ). inserted w x marks) n;
      }
