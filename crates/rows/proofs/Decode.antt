-- Laws of decoding: the nodes of a range of rows are the node of its first row and those of the rows after it. The number of turns that
-- `decode` is given plays no part, since every range it goes on with is shorter.
-- Assumes nothing.
use mathlib.Core.Path.{◌≡◌, refl, sym, ◌∙◌}
use Prim.Native.Nat.{ℕ, zero, suc, ◌-◌, ◌≤◌, ◌<◌}
use native.Mathlib.Omega.{arith}
use mathlib.Core.Bool.{cond}
use lib.Dec.{ltb}
use borrow.Author.Tests.{lt-ltb, le-ltb}
use Rattle.rows.specs.Kinds.{GROUP, INDENT, INDENT_NEXT, WRAP_PARENT, COMMENT, STR, ASCII, LINE, EMPTY_LINE, LINE_OR_SPACE, IF_WRAP, CALL}
use Rattle.rows.specs.Node.{Nodes, group, indent, indent_next, wrap_parent, comment, str, ascii, line, empty_line, line_or_space, if_wrap, call, none, ◌then◌}
use Rattle.rows.specs.View.{View, first_of, node_of, end_in, second_in, decode, nodes_at, node_at}
use Rattle.rows.specs.Nesting.{RangeIn, Split}

-- the nodes from row i on, from those of its parts and of the rows after it
unfoldable pub step : View → ℕ → ℕ → Nodes → Nodes → Nodes → Nodes → Nodes
step v i j ns e a r = cond (ltb i j) (node_of v i ns e a then r) none

step_ap : (v : View) (i j : ℕ) {a b c d a' b' c' d' : Nodes} → a ≡ a' → b ≡ b' → c ≡ c' → d ≡ d' → step v i j a b c d ≡ step v i j a' b' c' d'
step_ap v i j p q r s = λ k. step v i j (p k) (q k) (r k) (s k)

decode_suc : (f : ℕ) (v : View) (i j : ℕ)
    → decode (suc f) v i j
    ≡ step v i j
    (decode f v (suc i) (end_in v i j))
    (decode f v (suc i) (second_in v i (end_in v i j)))
    (decode f v (second_in v i (end_in v i j)) (end_in v i j))
    (decode f v (end_in v i j) j)
unfolding decode step
decode_suc f v i j = refl

pub decode_none : (f : ℕ) (v : View) (i j : ℕ) → j ≤ i → decode f v i j ≡ none
unfolding decode
decode_none zero v i j h = refl
decode_none (suc f) v i j h = rw (le-ltb i j h)

-- what is left of each of the four ranges
less_parts : (v : View) (i j f : ℕ) → j - i ≤ suc f → end_in v i j - suc i ≤ f
less_parts v i j f p = omega arith

less_first : (v : View) (i j f : ℕ) → j - i ≤ suc f → second_in v i (end_in v i j) - suc i ≤ f
less_first v i j f p = omega arith

less_second : (v : View) (i j f : ℕ) → j - i ≤ suc f → end_in v i j - second_in v i (end_in v i j) ≤ f
less_second v i j f p = omega arith

less_rest : (v : View) (i j f : ℕ) → j - i ≤ suc f → j - end_in v i j ≤ f
less_rest v i j f p = omega arith

decode_enough : (f g : ℕ) (v : View) (i j : ℕ) → j - i ≤ f → j - i ≤ g → decode f v i j ≡ decode g v i j
decode_enough zero g v i j p q = decode_none zero v i j (omega arith) ∙ sym (decode_none g v i j (omega arith))
decode_enough (suc f) zero v i j p q = decode_none (suc f) v i j (omega arith) ∙ sym (decode_none zero v i j (omega arith))
decode_enough (suc f) (suc g) v i j p q =
    decode_suc f v i j
    ∙ step_ap v i j
    (decode_enough f g v (suc i) (end_in v i j) (less_parts v i j f p) (less_parts v i j g q))
    (decode_enough f g v (suc i) (second_in v i (end_in v i j)) (less_first v i j f p) (less_first v i j g q))
    (decode_enough f g v (second_in v i (end_in v i j)) (end_in v i j) (less_second v i j f p) (less_second v i j g q))
    (decode_enough f g v (end_in v i j) j (less_rest v i j f p) (less_rest v i j g q))
    ∙ sym (decode_suc g v i j)

-- no rows
pub nodes_none : (v : View) (i j : ℕ) → j ≤ i → nodes_at v i j ≡ none
unfolding nodes_at
nodes_none v i j h = decode_none (j - i) v i j h

step_some : (v : View) (i j : ℕ) (ns e a r : Nodes) → i < j → step v i j ns e a r ≡ (node_of v i ns e a then r)
unfolding step
step_some v i j ns e a r h = rw (lt-ltb i j h)

decode_some : (f : ℕ) (v : View) (i j : ℕ) → i < j → j - i ≤ f
    → decode f v i j
    ≡ step v i j
    (nodes_at v (suc i) (end_in v i j))
    (nodes_at v (suc i) (second_in v i (end_in v i j)))
    (nodes_at v (second_in v i (end_in v i j)) (end_in v i j))
    (nodes_at v (end_in v i j) j)
unfolding nodes_at
decode_some zero v i j h p = absurd (omega arith)
decode_some (suc f) v i j h p =
    decode_suc f v i j
    ∙ step_ap v i j
    (decode_enough f (end_in v i j - suc i) v (suc i) (end_in v i j) (less_parts v i j f p) (omega arith))
    (decode_enough f (second_in v i (end_in v i j) - suc i) v (suc i) (second_in v i (end_in v i j)) (less_first v i j f p) (omega arith))
    (decode_enough f
    (end_in v i j - second_in v i (end_in v i j))
    v
    (second_in v i (end_in v i j))
    (end_in v i j)
    (less_second v i j f p)
    (omega arith))
    (decode_enough f (j - end_in v i j) v (end_in v i j) j (less_rest v i j f p) (omega arith))

end_in_lem : (v : View) (i j : ℕ) → RangeIn v i j → end_in v i j ≡ v.after i
end_in_lem v i j w = omega arith

second_in_lem : (v : View) (i : ℕ) → Split v i → second_in v i (v.after i) ≡ v.second i
second_in_lem v i s = omega arith

nodes_step : (v : View) (i j : ℕ) → i < j
    → nodes_at v i j
    ≡ step v i j
    (nodes_at v (suc i) (end_in v i j))
    (nodes_at v (suc i) (second_in v i (end_in v i j)))
    (nodes_at v (second_in v i (end_in v i j)) (end_in v i j))
    (nodes_at v (end_in v i j) j)
unfolding nodes_at
nodes_step v i j h = decode_some (j - i) v i j h (omega arith)

nodes_clamped : (v : View) (i j : ℕ) → i < j
    → nodes_at v i j
    ≡ (node_of v i
    (nodes_at v (suc i) (end_in v i j))
    (nodes_at v (suc i) (second_in v i (end_in v i j)))
    (nodes_at v (second_in v i (end_in v i j)) (end_in v i j))
    then nodes_at v (end_in v i j) j)
nodes_clamped v i j h = nodes_step v i j h ∙ step_some v i j _ _ _ _ h

-- a row, and the rows after it
pub nodes_some : (v : View) (i j : ℕ) → RangeIn v i j → nodes_at v i j ≡ (node_at v i then nodes_at v (v.after i) j)
unfolding node_at
nodes_some v i j w = nodes_clamped v i j (omega arith) ∙ rw (end_in_lem v i j w)

-- The node of a row, by its kind.
module _ (v : View) (i : ℕ) where
  pub node_group : v.kind i ≡ GROUP → node_at v i ≡ group (v.number i) (nodes_at v (suc i) (v.after i))
  unfolding node_at node_of
  node_group e = rw e

  pub node_indent : v.kind i ≡ INDENT → node_at v i ≡ indent (nodes_at v (suc i) (v.after i))
  unfolding node_at node_of
  node_indent e = rw e

  pub node_next : v.kind i ≡ INDENT_NEXT → node_at v i ≡ indent_next (nodes_at v (suc i) (v.after i))
  unfolding node_at node_of
  node_next e = rw e

  pub node_parent : v.kind i ≡ WRAP_PARENT → node_at v i ≡ wrap_parent
  unfolding node_at node_of
  node_parent e = rw e

  pub node_comment : v.kind i ≡ COMMENT → node_at v i ≡ comment (v.text i)
  unfolding node_at node_of
  node_comment e = rw e

  pub node_str : v.kind i ≡ STR → node_at v i ≡ str (v.width i) (v.text i)
  unfolding node_at node_of
  node_str e = rw e

  pub node_ascii : v.kind i ≡ ASCII → node_at v i ≡ ascii (v.text i)
  unfolding node_at node_of
  node_ascii e = rw e

  pub node_line : v.kind i ≡ LINE → node_at v i ≡ line
  unfolding node_at node_of
  node_line e = rw e

  pub node_empty : v.kind i ≡ EMPTY_LINE → node_at v i ≡ empty_line
  unfolding node_at node_of
  node_empty e = rw e

  pub node_space : v.kind i ≡ LINE_OR_SPACE → node_at v i ≡ line_or_space
  unfolding node_at node_of
  node_space e = rw e

  pub node_if : v.kind i ≡ IF_WRAP → Split v i
      → node_at v i ≡ if_wrap (v.number i) (first_of (nodes_at v (suc i) (v.second i))) (first_of (nodes_at v (v.second i) (v.after i)))
  unfolding node_at node_of
  node_if e s = rw (e, second_in_lem v i s)

  pub node_call : v.kind i ≡ CALL → Split v i
      → node_at v i ≡ call (v.number i) (nodes_at v (suc i) (v.second i)) (v.number2 i) (nodes_at v (v.second i) (v.after i))
  unfolding node_at node_of
  node_call e s = rw (e, second_in_lem v i s)
