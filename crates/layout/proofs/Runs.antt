-- Laws of elements one after the other: the first of them and the rest, and each list of the syntax tree as elements.
-- Assumes nothing.
use mathlib.Core.Path.{◌≡◌, refl, sym, ap, subst, ◌∙◌}
use mathlib.Core.Bool.{Bool, true, false}
use mathlib.Core.List.{List, [], ◌∷◌}
use Prim.Native.Nat.{ℕ, ◌+◌, ◌*◌, ◌-◌, ◌≤◌, ◌<◌}
use native.Mathlib.Omega.{arith}
use lib.ListN.{length, set}
use Rattle.image.specs.Bytes.{be32}
use Rattle.image.specs.Read.{stop_at}
use Rattle.ast.specs.Syntax.{Span, Ident, type, Types, no_types, ◌∷ᵗ◌, Fields, no_fields, field, import, Imports, no_imports}
use Rattle.ast.specs.Syntax.{◌∷ⁱ◌, Variants, no_variants, variant, expr, Exprs, no_exprs, ◌∷ᵉ◌, Entries, no_entries, entry, Arms, no_arms, arm}
use Rattle.tree.specs.At.{Head, IdentsAt, TypeAt, TypesAt, FieldsAt, ImportAt, ImportsAt, VariantsAt, ExprAt, ExprsAt, EntriesAt, ArmsAt}
use Rattle.rows.specs.Kinds.{GROUP, INDENT}
use Rattle.acts.specs.Spelling.{spelling}
use Rattle.acts.specs.declared.words.Word.TheVariants.{ParenOpen, ParenClose, BracketOpen, BracketClose, BraceOpen, BraceClose}
use Rattle.acts.specs.Act.{Given, Act, ◌⨟◌, says, grouped, indented}
use Rattle.acts.specs.Laid.{Room, Laid, Opened}
use Rattle.acts.specs.Does.{Does, Opens}
use Rattle.acts.specs.declared.State.{State}
use Rattle.acts.specs.declared.parts.Branch.TheVariants.{Group, Indent}
use Rattle.acts.specs.declared.Cursor.{Cursor}
use Rattle.acts.proofs.Laws.{Lays, lays, lays_then, lays_skip, room_first, room_next}
use Rattle.acts.proofs.Nested.{room_group, laid_group, room_indent, lays_indent}
use Rattle.comments.specs.Comments.{pop_trailing_comment}
use Rattle.tree.specs.CommentList.{span}
use Rattle.comments.specs.Listed.{given}
use Rattle.comments.specs.AllIn.{AllIn}
use Rattle.comments.proofs.Offsets.{in_first, in_none}
use Rattle.layout.specs.declared.forms.ListForm.{ListForm}
use Rattle.layout.specs.declared.forms.WrapStyle.TheVariants.{Tight}
use Rattle.layout.specs.Layout.{Elem, elements, separated, inside, before_elem, ident_elems, type_elems, field_elems}
use Rattle.layout.specs.Layout.{import_elems, variant_elems, expr_elems, grouped_elems, entry_elems, arm_elems, edge, ends}
use Rattle.layout.specs.Promises.{HasIn, HasAllIn, Readable}
use Rattle.comments.specs.Record.{Whole}
use Rattle.layout.specs.Elems.{elem_rule, IdentElem, ImportElem, VariantElem, TypeElem, FieldElem, ExprElem, GroupedElem, EntryElem, ArmElem}
use Rattle.layout.specs.Elems.{ElemsAt, mark, elements_rule, ListOf}
use Rattle.layout.specs.Elems.{starts, list_rule, HasListIn, HasEmptyIn}
use Rattle.layout.proofs.Lays.{LaysAll, LaysAs, LaysList, LaysEmpty}

-- the first of the elements that are left, and those after it
pub record MoreElems (P : List ℕ → List ℕ → Elem → ℕ → Type 0) (commas first : Bool) (s b : List ℕ) (p to : ℕ) (c : Cursor) : Type 0 where
  pub accepted : Readable b
  pub elem : Elem
  pub held : P s b elem p
  pub whole : Whole b p
  pub least : stop_at b p ≤ to
  pub inside : to ≤ length b
  pub rest : List Elem
  pub rest_held : ElemsAt P s b rest (stop_at b p) to
  pub room :
      Room (before_elem (given s b) (mark commas) first (be32 b (p + 5)) ⨟ elem.act ⨟ elements (given s b) (mark commas) false rest) c

module _ (P : List ℕ → List ℕ → Elem → ℕ → Type 0) (commas first : Bool) {s b : List ℕ} {p to : ℕ} {c : Cursor} where
  pub elems_first : p < to → HasAllIn (ElemsAt P) (elements_rule commas first) s b p to c → MoreElems P commas first s b p to c
  unfolding ElemsAt elements
  elems_first lt h = go h.tree h.held h.room
    where
      go : (es : List Elem) → ElemsAt P s b es p to → Room (elements_rule commas first (given s b) es) c → MoreElems P commas first s b p to c
      go [] a room = absurd (omega (arith, a.same))
      go (e ∷ es) a room =
          record {
            accepted = h.accepted;
            elem = e;
            held = a.0.item;
            whole = record { long = a.0.long; fits = omega (arith, a.1.least, h.inside) };
            least = a.1.least;
            inside = h.inside;
            rest = es;
            rest_held = a.2;
            room =
                subst
                (λ (n : ℕ). Room (before_elem (given s b) (mark commas) first n ⨟ e.act ⨟ elements (given s b) (mark commas) false es) c)
                (sym a.0.start) room;
          }

  module _ {n : ℕ} (m : MoreElems P commas first s b p to c) (q : n ≡ be32 b (p + 5)) where
    here : Room (before_elem (given s b) (mark commas) first n ⨟ m.elem.act ⨟ elements (given s b) (mark commas) false m.rest) c
    here =
        subst
        (λ (i : ℕ).
        Room (before_elem (given s b) (mark commas) first i ⨟ m.elem.act ⨟ elements (given s b) (mark commas) false m.rest) c)
        (sym q) m.room

    pub before_room : Room (before_elem (given s b) (mark commas) first n) c
    before_room = room_first _ here

    pub elem_has : {x y : List ℕ} {d : Cursor} → Lays (before_elem (given s b) (mark commas) first n) x c y d → HasIn P elem_rule s b p d
    elem_has l = record { accepted = m.accepted; tree = m.elem; held = m.held; room = room_first _ (room_next here l) }

    pub elems_rest : {x y z : List ℕ} {d e : Cursor} → Lays (before_elem (given s b) (mark commas) first n) x c y d
        → LaysAs P elem_rule s b p y d z e → HasAllIn (ElemsAt P) (elements_rule commas false) s b (stop_at b p) to e
    elems_rest l i =
        record {
          accepted = m.accepted;
          tree = m.rest;
          held = m.rest_held;
          inside = m.inside;
          room = room_next (room_next here l) (i.of m.elem m.held);
        }

module _ (P : List ℕ → List ℕ → Elem → ℕ → Type 0) {s b : List ℕ} {p to : ℕ} where
  pub elems_none : (commas first : Bool) {x : List ℕ} {c : Cursor} → to ≤ p → LaysAll (ElemsAt P) (elements_rule commas first) s b p to x c x c
  unfolding ElemsAt elements
  elems_none commas first {x} {c} le = record { of = go }
    where
      go : (es : List Elem) → ElemsAt P s b es p to → Lays (elements_rule commas first (given s b) es) x c x c
      go [] a = lays_skip
      go (e ∷ es) a = absurd (omega (arith, a.0.long, a.1.least))

  pub elems_more : (commas first : Bool) {n : ℕ} {x y z w : List ℕ} {c d e f : Cursor} → p < to → n ≡ be32 b (p + 5)
      → Lays (before_elem (given s b) (mark commas) first n) x c y d → LaysAs P elem_rule s b p y d z e
      → LaysAll (ElemsAt P) (elements_rule commas false) s b (stop_at b p) to z e w f
      → LaysAll (ElemsAt P) (elements_rule commas first) s b p to x c w f
  unfolding ElemsAt elements
  elems_more commas first {n} {x} {y} {z} {w} {c} {d} {e} {f} lt q l m r = record { of = go }
    where
      go : (es : List Elem) → ElemsAt P s b es p to → Lays (elements_rule commas first (given s b) es) x c w f
      go [] a = absurd (omega (arith, a.same))
      go (i ∷ es) a =
          lays_then (subst (λ (j : ℕ). Lays (before_elem (given s b) (mark commas) first j) x c y d) (q ∙ a.0.start) l)
          (lays_then (m.of i a.0.item) (r.of es a.2))

-- ---- the lists of the syntax tree as elements
module _ (s b : List ℕ) (to : ℕ) where
  pub ident_elems_lem : (at : ℕ) (is : List Ident) → IdentsAt s b is at to → ElemsAt IdentElem s b (ident_elems (given s b) is) at to
  unfolding IdentsAt ElemsAt
  ident_elems_lem at [] a = a
  ident_elems_lem at (i ∷ is) a = (
    record { start = a.0.head.start; long = a.0.head.long; item = record { tree = i; held = a.0; same = refl } },
    a.1,
    ident_elems_lem (stop_at b at) is a.2,
  )

  pub type_elems_lem : (at : ℕ) (ts : Types) → TypesAt s b ts at to → ElemsAt TypeElem s b (type_elems (given s b) ts) at to
  unfolding TypesAt TypeAt ElemsAt type_elems
  type_elems_lem at no_types a = a
  type_elems_lem at (type p f ∷ᵗ ts) a = (
    record { start = a.0.0.start; long = a.0.0.long; item = record { tree = type p f; held = a.0; same = refl } },
    a.1,
    type_elems_lem (stop_at b at) ts a.2,
  )

  pub field_elems_lem : (at : ℕ) (fs : Fields) → FieldsAt s b fs at to → ElemsAt FieldElem s b (field_elems (given s b) fs) at to
  unfolding FieldsAt ElemsAt field_elems
  field_elems_lem at no_fields a = a
  field_elems_lem at (field p i t fs) a = (
    record { start = a.0.start; long = a.0.long; item = record { tree = (p, i, t); held = (a.0, a.1, a.2, a.3); same = refl } },
    a.4,
    field_elems_lem (stop_at b at) fs a.5,
  )

  pub import_elems_lem : (at : ℕ) (is : Imports) → ImportsAt s b is at to → ElemsAt ImportElem s b (import_elems (given s b) is) at to
  unfolding ImportsAt ImportAt ElemsAt import_elems
  import_elems_lem at no_imports a = a
  import_elems_lem at (import p q g ∷ⁱ is) a = (
    record { start = a.0.0.start; long = a.0.0.long; item = record { tree = import p q g; held = a.0; same = refl } },
    a.1,
    import_elems_lem (stop_at b at) is a.2,
  )

  pub variant_elems_lem : (at : ℕ) (vs : Variants) → VariantsAt s b vs at to → ElemsAt VariantElem s b (variant_elems (given s b) vs) at to
  unfolding VariantsAt ElemsAt variant_elems
  variant_elems_lem at no_variants a = a
  variant_elems_lem at (variant p i ts vs) a = (
    record { start = a.0.start; long = a.0.long; item = record { tree = (p, i, ts); held = (a.0, a.1, a.2, a.3, a.4); same = refl } },
    a.5,
    variant_elems_lem (stop_at b at) vs a.6,
  )

  pub expr_elems_lem : (at : ℕ) (es : Exprs) → ExprsAt s b es at to → ElemsAt ExprElem s b (expr_elems (given s b) es) at to
  unfolding ExprsAt ExprAt ElemsAt expr_elems
  expr_elems_lem at no_exprs a = a
  expr_elems_lem at (expr p f ∷ᵉ es) a = (
    record { start = a.0.0.start; long = a.0.0.long; item = record { tree = expr p f; held = a.0; same = refl } },
    a.1,
    expr_elems_lem (stop_at b at) es a.2,
  )

  pub grouped_elems_lem : (at : ℕ) (es : Exprs) → ExprsAt s b es at to → ElemsAt GroupedElem s b (grouped_elems (given s b) es) at to
  unfolding ExprsAt ExprAt ElemsAt grouped_elems
  grouped_elems_lem at no_exprs a = a
  grouped_elems_lem at (expr p f ∷ᵉ es) a = (
    record { start = a.0.0.start; long = a.0.0.long; item = record { tree = expr p f; held = a.0; same = refl } },
    a.1,
    grouped_elems_lem (stop_at b at) es a.2,
  )

  pub entry_elems_lem : (at : ℕ) (es : Entries) → EntriesAt s b es at to → ElemsAt EntryElem s b (entry_elems (given s b) es) at to
  unfolding EntriesAt ElemsAt entry_elems
  entry_elems_lem at no_entries a = a
  entry_elems_lem at (entry p i e es) a = (
    record { start = a.0.start; long = a.0.long; item = record { tree = (p, i, e); held = (a.0, a.1, a.2, a.3); same = refl } },
    a.4,
    entry_elems_lem (stop_at b at) es a.5,
  )

  pub arm_elems_lem : (at : ℕ) (arms : Arms) → ArmsAt s b arms at to → ElemsAt ArmElem s b (arm_elems (given s b) arms) at to
  unfolding ArmsAt ElemsAt arm_elems
  arm_elems_lem at no_arms a = a
  arm_elems_lem at (arm p q g e arms) a = (
    record { start = a.0.start; long = a.0.long; item = record { tree = (p, q, g, e); held = (a.0, a.1, a.2, a.3, a.4); same = refl } },
    a.5,
    arm_elems_lem (stop_at b at) arms a.6,
  )

-- the record that holds them, as a list
pub list_of : {P : List ℕ → List ℕ → Elem → ℕ → Type 0} {n : ℕ} {p : Span} {s b : List ℕ} {at : ℕ} {es : List Elem}
    → Head s b n p at → ElemsAt P s b es (at + 13) (stop_at b at) → ListOf P s b es at
list_of h a = record { long = h.long; fits = h.fits; elems = a }

-- ---- a list by its form
abbrev pub parens : ListForm
parens = record { left = ParenOpen; right = ParenClose; commas = true; style = Tight }

abbrev pub brackets : ListForm
brackets = record { left = BracketOpen; right = BracketClose; commas = true; style = Tight }

abbrev pub braces : ListForm
braces = record { left = BraceOpen; right = BraceClose; commas = true; style = Tight }

-- the steps where there are elements
abbrev pub list_steps : ListForm → ℕ → ℕ → Given → List Elem → Act
list_steps form end id g es =
    starts form
    ⨟ indented (elements_rule form.commas true g es ⨟ ends g (mark form.commas) id (span 0 end))
    ⨟ edge form.style
    ⨟ says (spelling form.right)
    ⨟ pop_trailing_comment g

-- what a list lays goes by the end of the span alone
pub list_same : (form : ListForm) (g : Given) (e : Elem) (es : List Elem) {end : ℕ} (p : Span) → end ≡ p.end
    → list_rule form g (e ∷ es) p ≡ grouped (λ id. list_steps form end id g (e ∷ es))
unfolding separated inside ends
list_same form g e es p q = rw q refl

-- ---- a list with elements, from its beginning to its end
-- it is begun: its group is open from c on, what comes before its elements is laid, and its indent is open up to i
pub record Begun (form : ListForm) (store : List ℕ) (c : Cursor) (store' : List ℕ) (i : Cursor) : Type 0 where
  pub store₁ : List ℕ
  pub store₂ : List ℕ
  pub c₁ : Cursor
  pub c₂ : Cursor
  pub group : Opened GROUP c.number 0 1 store c store₁ c₁
  pub words : Laid (starts form) store₁ c₁ store₂ c₂
  pub indent : Opened INDENT 0 0 0 store₂ c₂ store' i

pub begun : {form : ListForm} {r q : ℕ} {x y z w : State} → Opens Group x y r → Does (starts form) y z → Opens Indent z w q
    → Begun form x.store.now x.cursor w.store.now w.cursor
begun o l i = record { store₁ = _; store₂ = _; c₁ = _; c₂ = _; group = o.opened; words = l.laid; indent = i.opened }

-- its elements are laid from i up to d
pub record HasElems (form : ListForm) (end : ℕ) (s b : List ℕ) (c i : Cursor) (store : List ℕ) (d : Cursor) : Type 0 where
  pub store₀ : List ℕ
  pub store₁ : List ℕ
  pub begun : Begun form store₀ c store₁ i
  pub first : Elem
  pub more : List Elem
  pub elems : Laid (elements_rule form.commas true (given s b) (first ∷ more)) store₁ i store d
  pub span : Span
  pub ended : end ≡ span.end
  pub room : Room (list_rule form (given s b) (first ∷ more) span) c

module _ {form : ListForm} {end : ℕ} {s b : List ℕ} where
  -- a list that was begun, with its elements laid
  abbrev ended_list : {x y z : List ℕ} {c i d : Cursor} → Begun form x c y i → (e : Elem) (es : List Elem)
      → Lays (elements_rule form.commas true (given s b) (e ∷ es)) y i z d → (p : Span) → end ≡ p.end
      → Room (list_rule form (given s b) (e ∷ es) p) c → HasElems form end s b c i z d
  ended_list {x} {y} {c = c} w e es l p j room =
      let steps : Room (grouped (λ id. list_steps form end id (given s b) (e ∷ es))) c =
      subst (λ (r : Act). Room r c) (list_same form (given s b) e es p j) room in
      record {
        store₀ = x;
        store₁ = y;
        begun = w;
        first = e;
        more = es;
        elems =
            l.does (room_first _ (room_indent (room_first _ (room_next (room_group _ steps w.group) (lays w.words))) w.indent));
        span = p;
        ended = j;
        room = room;
      }

module _ {P : List ℕ → List ℕ → Elem → ℕ → Type 0} {form : ListForm} {end : ℕ} {s b : List ℕ} {at : ℕ} where
  -- without elements
  pub empty_has : {c : Cursor} → at + 13 ≡ stop_at b at → HasListIn P form end s b at c → HasEmptyIn form end s b c
  unfolding ElemsAt
  empty_has {c} q h = go h.tree h.held h.room
    where
      go : (es : List Elem) → ListOf P s b es at → Room (list_rule form (given s b) es h.span) c → HasEmptyIn form end s b c
      go [] a room = record { accepted = h.accepted; span = h.span; ended = h.ended; room = room }
      go (i ∷ es) a room = absurd (omega (arith, q, a.elems.0.long, a.elems.1.least))

  pub empty_laid : {x y : List ℕ} {c d : Cursor} → at + 13 ≡ stop_at b at → LaysEmpty form end s b x c y d → LaysList P form end s b at x c y d
  unfolding ElemsAt
  empty_laid {x} {y} {c} {d} q l = record { of = go }
    where
      go : (es : List Elem) → ListOf P s b es at → (p : Span) → end ≡ p.end → Lays (list_rule form (given s b) es p) x c y d
      go [] a p e = l.of p e
      go (i ∷ es) a p e = absurd (omega (arith, q, a.elems.0.long, a.elems.1.least))

  -- with elements
  pub some_elems : {c : Cursor} → (at + 13 ≡ stop_at b at → ⊥) → HasListIn P form end s b at c
      → HasAllIn (ElemsAt P) (λ g es. grouped (λ id. list_steps form end id g es)) s b (at + 13) (stop_at b at) c
  unfolding ElemsAt
  some_elems {c} q h = go h.tree h.held h.room
    where
      go : (es : List Elem) → ListOf P s b es at → Room (list_rule form (given s b) es h.span) c
          → HasAllIn (ElemsAt P) (λ g es. grouped (λ id. list_steps form end id g es)) s b (at + 13) (stop_at b at) c
      go [] a room = absurd (q a.elems.same)
      go (i ∷ es) a room =
          record {
            accepted = h.accepted;
            tree = i ∷ es;
            held = a.elems;
            inside = a.fits;
            room = subst (λ (r : Act). Room r c) (list_same form (given s b) i es h.span h.ended) room;
          }

  -- a list that is begun has room for its elements
  module _ (q : at + 13 ≡ stop_at b at → ⊥) {c : Cursor} (h : HasListIn P form end s b at c) where
    pub elems_all : {x y : List ℕ} {i : Cursor} → Begun form x c y i → HasAllIn (ElemsAt P) (elements_rule form.commas true) s b (at + 13) (stop_at b at) i
    elems_all w =
        let a = some_elems q h in
        record {
          accepted = a.accepted;
          tree = a.tree;
          held = a.held;
          inside = a.inside;
          room = room_first _ (room_indent (room_first _ (room_next (room_group _ a.room w.group) (lays w.words))) w.indent);
        }

  -- and with them laid it can be ended
  pub elems_done : (at + 13 ≡ stop_at b at → ⊥) → {x y z : List ℕ} {c i d : Cursor} → HasListIn P form end s b at c → Begun form x c y i
      → LaysAll (ElemsAt P) (elements_rule form.commas true) s b (at + 13) (stop_at b at) y i z d → HasElems form end s b c i z d
  unfolding ElemsAt
  elems_done q {x} {y} {z} {c} {i} {d} h w l = go h.tree h.held h.room
    where
      go : (es : List Elem) → ListOf P s b es at → Room (list_rule form (given s b) es h.span) c → HasElems form end s b c i z d
      go [] a room = absurd (q a.elems.same)
      go (e ∷ es) a room = ended_list w e es (l.of (e ∷ es) a.elems) h.span h.ended room

  -- a list that was begun, whose elements were laid, and that was ended
  pub list_laid : (at + 13 ≡ stop_at b at → ⊥) → {x y z w : List ℕ} {c i d e : Cursor} → Begun form x c y i
      → LaysAll (ElemsAt P) (elements_rule form.commas true) s b (at + 13) (stop_at b at) y i z d
      → ((h : HasElems form end s b c i z d) → Laid (list_rule form (given s b) (h.first ∷ h.more) h.span) h.store₀ c w e)
      → LaysList P form end s b at x c w e
  unfolding ElemsAt
  list_laid q {x} {y} {z} {w} {c} {i} {d} {e} u l m = record { of = go }
    where
      go : (es : List Elem) → ListOf P s b es at → (p : Span) → end ≡ p.end → Lays (list_rule form (given s b) es p) x c w e
      go [] a p j = absurd (q a.elems.same)
      go (f ∷ es) a p j = record { does = λ room. m (ended_list u f es (l.of (f ∷ es) a.elems) p j room) }

-- ---- the end of a list
module _ {form : ListForm} {end : ℕ} {s b : List ℕ} {c i d : Cursor} {y : List ℕ} (h : HasElems form end s b c i y d) where
  same : list_rule form (given s b) (h.first ∷ h.more) h.span ≡ grouped (λ id. list_steps form end id (given s b) (h.first ∷ h.more))
  same = list_same form (given s b) h.first h.more h.span h.ended

  in_list : Room (list_steps form end c.number (given s b) (h.first ∷ h.more)) h.begun.c₁
  in_list = room_group _ (subst (λ (r : Act). Room r c) same h.room) h.begun.group

  pub ends_room : Room (ends (given s b) (mark form.commas) c.number (span 0 end)) d
  ends_room =
      room_next (room_indent (room_first _ (room_next in_list (lays h.begun.words))) h.begun.indent) (lays h.elems)

  pub indent_row : i.row ≡ h.begun.c₂.row + 1
  indent_row = ap (λ (x : Cursor). x.row) h.begun.indent.moved

  module _ {z w : List ℕ} {e : Cursor} (l : Laid (ends (given s b) (mark form.commas) c.number (span 0 end)) y d z e)
      (k : w ≡ set z (9 * (i.row - 1) + 4) e.row) where
    inner : Lays
        (indented (elements_rule form.commas true (given s b) (h.first ∷ h.more) ⨟ ends (given s b) (mark form.commas) c.number (span 0 end)))
        h.begun.store₂ h.begun.c₂ w e
    inner =
        lays_indent h.begun.indent (lays_then (lays h.elems) (lays l))
        (k ∙ ap (λ (n : ℕ). set z (9 * n + 4) e.row) (omega (arith, indent_row)))

    pub close_room : Room (edge form.style ⨟ says (spelling form.right) ⨟ pop_trailing_comment (given s b)) e
    close_room = room_next (room_next in_list (lays h.begun.words)) inner

    pub list_ended : {u v : List ℕ} {r : Cursor} → Laid (edge form.style ⨟ says (spelling form.right) ⨟ pop_trailing_comment (given s b)) w e u r
        → v ≡ set u (9 * c.row + 4) r.row → Laid (list_rule form (given s b) (h.first ∷ h.more) h.span) h.store₀ c v r
    list_ended {v = v} {r = r} m j =
        subst (λ (a : Act). Laid a h.store₀ c v r) (sym same)
        (laid_group _ h.begun.group ((lays_then (lays h.begun.words) (lays_then inner (lays m))).does in_list) j)

-- elements one after the other lie in the image
pub elems_in : (P : List ℕ → List ℕ → Elem → ℕ → Type 0) (s b : List ℕ) (from to : ℕ) (es : List Elem) → to ≤ length b → ElemsAt P s b es from to
    → AllIn b from to
unfolding ElemsAt
elems_in P s b from to [] h a = in_none b from to (omega (arith, a.same))
elems_in P s b from to (e ∷ es) h a =
    in_first b from to (omega (arith, a.0.long, a.1.least)) (omega (arith, a.1.least, h)) (elems_in P s b (stop_at b from) to es h a.2)
