-- The text of a stop is no longer than that of the end: every rule only adds to it. And the mark of a number that no row has is as it was.
-- Assumes nothing.
use mathlib.Core.Path.{◌≡◌, refl, ap, ◌∙◌}
use mathlib.Core.Bool.{Bool, true, false, cond, not, ◌&&◌, ◌||◌}
use mathlib.Core.List.{List, [], ◌∷◌, ◌++◌}
use Prim.Native.Nat.{ℕ, ◌+◌, ◌*◌, ◌≤◌}
use native.Mathlib.Omega.{arith}
use lib.Dec.{ltb, eqb}
use lib.ListN.{length, replicate, length-append, length-set}
use lib.Seq.{get_or-set_other}
use borrow.Author.Tests.{eqb-false}
use Rattle.rows.specs.Node.{Node, Nodes, group, indent, indent_next, wrap_parent, comment as comment_node, str, ascii}
use Rattle.rows.specs.Node.{line, empty_line, line_or_space, if_wrap, call, none, ◌then◌, wrapped}
use Rattle.renderer_rules.specs.Renderer.{Page, Renderer, on_pen, push_str, at_column, new_line, margin, comment, text, insert}
use Rattle.renderer_rules.specs.Renderer.{indent_more, next_indent_more, group_wraps, trailing_call, callee_wraps, render_node, render_nodes}
use Rattle.renderer_rules.proofs.Names.{names, names_in, neither, Same, render_same, renders_same}
use Rattle.whole_run.proofs.StopsKeep.{Numbered, AllNumbered, Kept}

-- ---- the text
-- no shorter
pub record Grows (r t : Renderer) : Type 0 where
  pub text : length r.buf ≤ length t.buf

abbrev pub AnyNumber : ℕ → Type 0
AnyNumber n = Unit {0}

grows_by : (r t : Renderer) (x : List ℕ) → t.buf ≡ r.buf ++ x → Grows r t
grows_by r t x e = record { text = (let f = ap length e ∙ length-append r.buf x in omega arith) }

grows_not : (r t : Renderer) → t.buf ≡ r.buf → Grows r t
grows_not r t e = record { text = (let f = ap length e in omega arith) }

grows_on : {r s t : Renderer} → Grows r s → Grows s t → Grows r t
grows_on a b = record { text = (let x = a.text in let y = b.text in omega arith) }

grows_either : (c : Bool) (r s t : Renderer) → Grows r s → Grows r t → Grows r (cond c s t)
grows_either true r s t a b = a
grows_either false r s t a b = b

margin_grows : (r : Renderer) → Grows r (margin r)
unfolding margin at_column push_str
margin_grows r = grows_by r (margin r) (replicate (4 * r.pen.indent) 0x20) refl

line_grows : (r : Renderer) → Grows r (new_line r)
unfolding new_line
line_grows r = grows_by r (new_line r) (cond (ltb 0 r.pen.column.0) (0x0A ∷ []) []) refl

pushed_grows : (t : List ℕ) (r : Renderer) → Grows r (push_str t r)
unfolding push_str
pushed_grows t r = grows_by r (push_str t r) t refl

column_grows : (c : ℕ) (r : Renderer) → Grows r (at_column c r)
unfolding at_column
column_grows c r = grows_not r (at_column c r) refl

text_grows : (t : List ℕ) (w : ℕ) (r : Renderer) → Grows r (text t w r)
unfolding text
text_grows t w r =
    let s = cond (ltb 0 r.pen.column.0) r (margin r) in
    grows_on (grows_either (ltb 0 r.pen.column.0) r r (margin r) (grows_not r r refl) (margin_grows r))
    (grows_on (pushed_grows t s) (column_grows (s.pen.column.0 + w) (push_str t s)))

comment_grows : (t : List ℕ) (r : Renderer) → Grows r (comment t r)
unfolding comment
comment_grows t r =
    let s = cond (ltb 0 r.pen.column.0) (push_str (0x20 ∷ []) r) (margin r) in
    grows_on (grows_either (ltb 0 r.pen.column.0) r (push_str (0x20 ∷ []) r) (margin r) (pushed_grows (0x20 ∷ []) r) (margin_grows r))
    (grows_on (pushed_grows (t ++ (0x0A ∷ [])) s) (column_grows 0 (push_str (t ++ (0x0A ∷ [])) s)))

marked_grows : (w : Bool) (n : ℕ) (r : Renderer) → Grows r (insert w n r)
unfolding insert
marked_grows w n r = grows_not r (insert w n r) refl

module _ (p : Page) where
  mutual
    unfolding render_node render_nodes

    node_grows : (n : Node) (w : Bool) (r : Renderer) → Grows r (render_node p n w r)
    node_grows (group n ns) w r = grows_on (marked_grows (group_wraps p ns r) n r) (nodes_grow ns (group_wraps p ns r) (insert (group_wraps p ns r) n r))
    node_grows (indent ns) w r = record { text = (nodes_grow ns w (on_pen (indent_more w) r)).text }
    node_grows (indent_next ns) w r = record { text = (nodes_grow ns w (on_pen (next_indent_more w) r)).text }
    node_grows wrap_parent w r = grows_not r r refl
    node_grows (comment_node t) w r = comment_grows (p.bytes t) r
    node_grows (str k t) w r = text_grows (p.bytes t) k r
    node_grows (ascii t) w r = text_grows (p.bytes t) (p.columns t) r
    node_grows line w r = grows_either w r (new_line r) r (line_grows r) (grows_not r r refl)
    node_grows empty_line w r = grows_on (pushed_grows (0x0A ∷ []) r) (line_grows (push_str (0x0A ∷ []) r))
    node_grows line_or_space w r = grows_either w r (new_line r) (text (0x20 ∷ []) 1 r) (line_grows r) (text_grows (0x20 ∷ []) 1 r)
    node_grows (if_wrap n x y) w r = grows_either (wrapped r.marks n) r (render_node p x w r) (render_node p y w r) (node_grows x w r) (node_grows y w r)
    node_grows (call n e k a) w r =
        let trails = trailing_call p e a r in
        let outer = callee_wraps p trails e a r in
        let s : Renderer = on_pen (next_indent_more (not trails && outer)) (insert outer n r) in
        let t : Renderer = render_nodes p e outer s in
        let u : Renderer = insert (group_wraps p a t) k t in
        let one = (marked_grows outer n r).text in
        let two = (nodes_grow e outer s).text in
        let three = (marked_grows (group_wraps p a t) k t).text in
        let four = (nodes_grow a (group_wraps p a t) u).text in
        record { text = omega arith }

    nodes_grow : (ns : Nodes) (w : Bool) (r : Renderer) → Grows r (render_nodes p ns w r)
    nodes_grow none w r = grows_not r r refl
    nodes_grow (n then ns) w r = grows_on (node_grows n w r) (nodes_grow ns w (render_node p n w r))

  pub text_kept : Kept p AnyNumber Grows
  text_kept =
      record {
        none = λ r. grows_not r r refl;
        on = λ {r} {s} {t} a b. grows_on a b;
        marked = λ w n r o. marked_grows w n r;
        pen = λ f r. grows_not r _ refl;
        node = λ n w r o. node_grows n w r;
        nodes = λ ns w r o. nodes_grow ns w r;
      }

mutual
  any_node : (n : Node) → Numbered AnyNumber n
  any_node (group n ns) = (tt, any_nodes ns)
  any_node (indent ns) = any_nodes ns
  any_node (indent_next ns) = any_nodes ns
  any_node wrap_parent = tt
  any_node (comment_node t) = tt
  any_node (str k t) = tt
  any_node (ascii t) = tt
  any_node line = tt
  any_node empty_line = tt
  any_node line_or_space = tt
  any_node (if_wrap n x y) = (tt, any_node x, any_node y)
  any_node (call n e k a) = (tt, tt, any_nodes e, any_nodes a)

  pub any_nodes : (ns : Nodes) → AllNumbered AnyNumber ns
  any_nodes none = tt
  any_nodes (n then ns) = (any_node n, any_nodes ns)

-- ---- the mark of a number x that no node has
module _ (x : ℕ) where
  abbrev pub Another : ℕ → Type 0
  Another n = eqb x n ≡ false

  mutual
    unfolding names

    another_node : (n : Node) → names x n ≡ false → Numbered Another n
    another_node (group n ns) e = let h = neither (eqb x n) (names_in x ns) e in (h.0, another_nodes ns h.1)
    another_node (indent ns) e = another_nodes ns e
    another_node (indent_next ns) e = another_nodes ns e
    another_node wrap_parent e = tt
    another_node (comment_node t) e = tt
    another_node (str k t) e = tt
    another_node (ascii t) e = tt
    another_node line e = tt
    another_node empty_line e = tt
    another_node line_or_space e = tt
    another_node (if_wrap n a b) e =
        let h = neither (eqb x n) (names x a || names x b) e in
        let k = neither (names x a) (names x b) h.1 in
        (h.0, another_node a k.0, another_node b k.1)
    another_node (call n e k a) q =
        let h = neither (eqb x n || eqb x k) (names_in x e || names_in x a) q in
        let i = neither (eqb x n) (eqb x k) h.0 in
        let j = neither (names_in x e) (names_in x a) h.1 in
        (i.0, i.1, another_nodes e j.0, another_nodes a j.1)

    pub another_nodes : (ns : Nodes) → names_in x ns ≡ false → AllNumbered Another ns
    another_nodes none e = tt
    another_nodes (n then ns) e = let h = neither (names x n) (names_in x ns) e in (another_node n h.0, another_nodes ns h.1)

    -- and back
    node_named : (n : Node) → Numbered Another n → names x n ≡ false
    node_named (group n ns) o = rw (o.0, nodes_named ns o.1)
    node_named (indent ns) o = nodes_named ns o
    node_named (indent_next ns) o = nodes_named ns o
    node_named wrap_parent o = refl
    node_named (comment_node t) o = refl
    node_named (str k t) o = refl
    node_named (ascii t) o = refl
    node_named line o = refl
    node_named empty_line o = refl
    node_named line_or_space o = refl
    node_named (if_wrap n a b) o = rw (o.0, node_named a o.1, node_named b o.2)
    node_named (call n e k a) o = rw (o.0, o.1, nodes_named e o.2, nodes_named a o.3)

    nodes_named : (ns : Nodes) → AllNumbered Another ns → names_in x ns ≡ false
    nodes_named none o = refl
    nodes_named (n then ns) o = rw (node_named n o.0, nodes_named ns o.1)

  insert_other : (w : Bool) (n : ℕ) (r : Renderer) → eqb x n ≡ false → Same x r (insert w n r)
  unfolding insert
  insert_other true n r e = record { mark = get_or-set_other r.marks n x 1 0 (eqb-false x n e); size = length-set r.marks n 1 }
  insert_other false n r e = record { mark = refl; size = refl }

  pub mark_kept : (p : Page) → Kept p Another (Same x)
  mark_kept p =
      record {
        none = λ r. record { mark = refl; size = refl };
        on = λ {r} {s} {t} a b. record { mark = b.mark ∙ a.mark; size = b.size ∙ a.size };
        marked = λ w n r o. insert_other w n r o;
        pen = λ f r. record { mark = refl; size = refl };
        node = λ n w r o. render_same x n p w r (node_named n o);
        nodes = λ ns w r o. renders_same x ns p w r (nodes_named ns o);
      }
