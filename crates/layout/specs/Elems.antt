-- The contracts of lists: the elements of `separated` in the image, and how a list of them is laid.
use Rattle.std.specs.Prelude.{ℕ, ◌+◌, ◌≤◌, ◌≡◌, Bool, cond, List, [], ◌∷◌, length}
use Prim.Native.String.{String}
use Rattle.std.specs.Fn.{Shared}
use denote.Ref.{MutBor}
use Rattle.image.specs.Bytes.{be32}
use Rattle.image.specs.Kinds.{LIST, NAME_AND_TYPE, VARIANT, FIELD, ARM}
use Rattle.image.specs.Read.{stop_at}
use Rattle.ast.specs.Syntax.{Span, Ident, Idents, TypeExpr, Types, Fields, Pattern, MaybeExpr, Expr, Exprs, Entries}
use Rattle.tree.specs.At.{Head, Record, first_at, second_at, third_at, Ends, Done, Before, IdentAt, TypeAt, TypesAt, ImportAt, PatternAt}
use Rattle.tree.specs.At.{MaybeExprAt, ExprAt}
use Rattle.acts.specs.Spelling.{spelling}
use Rattle.acts.specs.Act.{Given, Act, grouped}
use Rattle.acts.specs.Laid.{Room, Laid}
use Rattle.acts.specs.Does.{Does}
use Rattle.acts.specs.declared.Cursor.{Cursor}
use Rattle.acts.specs.declared.State.{State}
use Rattle.comments.specs.Listed.{given}
use Rattle.comments.specs.Parsed.{given_by}
use Rattle.comments.specs.declared.parsed.Parsed.{Parsed}
use Rattle.layout.specs.declared.forms.ListForm.{ListForm}
use Rattle.layout.specs.declared.forms.WrapStyle.{WrapStyle}
use Rattle.layout.specs.Promises.{Readable}
use Rattle.layout.specs.Layout.{Elem, ident, named, type_expr, import_path, opens, elements, separated, params, type_params, record_type_rule}
use Rattle.layout.specs.Layout.{function_args, record_rule}
use Rattle.layout.specs.Layout.{ident_elems, field_elems, expr_elems, entry_elems, variant_steps, arm_steps, maybe_expr, expr_rule, is_block}

-- a name and its type
abbrev pub FieldAt : List ℕ → List ℕ → Span × Ident × TypeExpr → ℕ → Type 0
FieldAt s b f at =
    Head s b NAME_AND_TYPE f.0 at × IdentAt s b f.1 (first_at s b at) × TypeAt s b f.2 (second_at s b at) × Ends s b (second_at s b at) at

abbrev pub field_rule : Given → Span × Ident × TypeExpr → Act
field_rule g f = named g f.1 (type_expr g f.2)

-- a variant and its types
abbrev pub VariantAt : List ℕ → List ℕ → Span × Ident × Types → ℕ → Type 0
VariantAt s b v at =
    Head s b VARIANT v.0 at
    × IdentAt s b v.1 (first_at s b at)
    × Record s b LIST (second_at s b at)
    × TypesAt s b v.2 (second_at s b at + 13) (third_at s b at)
    × Ends s b (second_at s b at) at

abbrev pub variant_rule : Given → Span × Ident × Types → Act
variant_rule g v = variant_steps g v.1 v.2

-- a name and its value
abbrev pub EntryAt : List ℕ → List ℕ → Span × Ident × Expr → ℕ → Type 0
EntryAt s b f at =
    Head s b FIELD f.0 at × IdentAt s b f.1 (first_at s b at) × ExprAt s b f.2 (second_at s b at) × Ends s b (second_at s b at) at

abbrev pub entry_rule : Given → Span × Ident × Expr → Act
entry_rule g f = named g f.1 (expr_rule g f.2)

-- pattern, guard and body
abbrev pub ArmAt : List ℕ → List ℕ → Span × Pattern × MaybeExpr × Expr → ℕ → Type 0
ArmAt s b a at =
    Head s b ARM a.0 at
    × PatternAt s b a.1 (first_at s b at)
    × MaybeExprAt s b a.2 (second_at s b at)
    × ExprAt s b a.3 (third_at s b at)
    × Ends s b (third_at s b at) at

abbrev pub arm_rule : Given → Span × Pattern × MaybeExpr × Expr → Act
arm_rule g a = arm_steps g a.1 (maybe_expr g " if " a.2) (expr_rule g a.3) (is_block a.3)

-- an expression in a group of its own
abbrev pub grouped_rule : Given → Expr → Act
grouped_rule g e = grouped (λ id. expr_rule g e)

-- a part of the syntax tree is at `at`, and the element e lays it
pub record Is {T : Type 0} (R : List ℕ → List ℕ → T → ℕ → Type 0) (rule : Given → T → Act) (s b : List ℕ) (e : Elem) (at : ℕ) : Type 0 where
  pub tree : T
  pub held : R s b tree at
  pub same : rule (given s b) tree ≡ e.act

-- the elements of each list
abbrev pub IdentElem : List ℕ → List ℕ → Elem → ℕ → Type 0
IdentElem = Is IdentAt ident

abbrev pub ImportElem : List ℕ → List ℕ → Elem → ℕ → Type 0
ImportElem = Is ImportAt import_path

abbrev pub VariantElem : List ℕ → List ℕ → Elem → ℕ → Type 0
VariantElem = Is VariantAt variant_rule

abbrev pub TypeElem : List ℕ → List ℕ → Elem → ℕ → Type 0
TypeElem = Is TypeAt type_expr

abbrev pub FieldElem : List ℕ → List ℕ → Elem → ℕ → Type 0
FieldElem = Is FieldAt field_rule

abbrev pub ExprElem : List ℕ → List ℕ → Elem → ℕ → Type 0
ExprElem = Is ExprAt expr_rule

abbrev pub GroupedElem : List ℕ → List ℕ → Elem → ℕ → Type 0
GroupedElem = Is ExprAt grouped_rule

abbrev pub EntryElem : List ℕ → List ℕ → Elem → ℕ → Type 0
EntryElem = Is EntryAt entry_rule

abbrev pub ArmElem : List ℕ → List ℕ → Elem → ℕ → Type 0
ArmElem = Is ArmAt arm_rule

-- the rule of an element
abbrev pub elem_rule : Given → Elem → Act
elem_rule g e = e.act

-- an element, whose span starts where it says
pub record ElemAt (P : List ℕ → List ℕ → Elem → ℕ → Type 0) (s b : List ℕ) (e : Elem) (at : ℕ) : Type 0 where
  pub start : be32 b (at + 5) ≡ e.start
  pub long : 9 ≤ be32 b at
  pub item : P s b e at

-- the closure f lays the element e, which is at `at`
pub record Laying {F : Type 0} (g : Shared F (MutBor State × (ℕ × Unit {0})) (Unit {0} × (MutBor State × Unit {0}))) (f : F)
    (s b : List ℕ) (e : Elem) (at : ℕ) : Type 0 where
  pub takes : (x : MutBor State) → Room e.act x.now.cursor → g.pre f (x, (at, tt))
  pub lays : (x y : MutBor State) → Room e.act x.now.cursor → g.post f (x, (at, tt)) (tt, (y, tt)) → Does e.act x.now y.now

-- elements one after the other
unfoldable pub ElemsAt : (List ℕ → List ℕ → Elem → ℕ → Type 0) → List ℕ → List ℕ → List Elem → ℕ → ℕ → Type 0
ElemsAt P s b [] at end = Done at end
ElemsAt P s b (e ∷ es) at end = ElemAt P s b e at × Before b at end × ElemsAt P s b es (stop_at b at) end

-- the separator, where there is one
abbrev pub mark : Bool → String
mark commas = cond commas "," ""

-- the elements, of which the next is the first or not
abbrev pub elements_rule : Bool → Bool → Given → List Elem → Act
elements_rule commas first g es = elements g (mark commas) first es

-- the record of a list, which holds its elements
pub record ListOf (P : List ℕ → List ℕ → Elem → ℕ → Type 0) (s b : List ℕ) (es : List Elem) (at : ℕ) : Type 0 where
  pub long : 9 ≤ be32 b at
  pub fits : stop_at b at ≤ length b
  pub elems : ElemsAt P s b es (at + 13) (stop_at b at)

-- ---- `separated`, by a list's form
abbrev pub starts : ListForm → Act
starts form = opens (spelling form.left) form.style

abbrev pub list_rule : ListForm → Given → List Elem → Span → Act
list_rule form g es span =
    separated g (spelling form.left) (spelling form.right) (mark form.commas) es span form.style

-- a list is at `at`, and there is room for `separated` over a span that ends at `end`
pub record HasListIn (P : List ℕ → List ℕ → Elem → ℕ → Type 0) (form : ListForm) (end : ℕ) (s b : List ℕ) (at : ℕ) (c : Cursor) : Type 0 where
  pub accepted : Readable b
  pub tree : List Elem
  pub held : ListOf P s b tree at
  pub span : Span
  pub ended : end ≡ span.end
  pub room : Room (list_rule form (given s b) tree span) c

abbrev pub HasList : (List ℕ → List ℕ → Elem → ℕ → Type 0) → ListForm → ℕ → Parsed → ℕ → Cursor → Type 0
HasList P form end p at c = HasListIn P form end p.source.now p.image.now at c

pub record LaidList (P : List ℕ → List ℕ → Elem → ℕ → Type 0) (form : ListForm) (end : ℕ) (p : Parsed) (at : ℕ) (x y : State) : Type 0 where
  pub of :
      (h : HasList P form end p at x.cursor) → Laid (list_rule form (given_by p) h.tree h.span) x.store.now x.cursor y.store.now y.cursor
  pub same : y.store.ghost_name ≡ x.store.ghost_name

-- the same where there is no element
pub record HasEmptyIn (form : ListForm) (end : ℕ) (s b : List ℕ) (c : Cursor) : Type 0 where
  pub accepted : Readable b
  pub span : Span
  pub ended : end ≡ span.end
  pub room : Room (list_rule form (given s b) [] span) c

abbrev pub HasEmpty : ListForm → ℕ → Parsed → Cursor → Type 0
HasEmpty form end p c = HasEmptyIn form end p.source.now p.image.now c

pub record LaidEmpty (form : ListForm) (end : ℕ) (p : Parsed) (x y : State) : Type 0 where
  pub of : (h : HasEmpty form end p x.cursor) → Laid (list_rule form (given_by p) [] h.span) x.store.now x.cursor y.store.now y.cursor
  pub same : y.store.ghost_name ≡ x.store.ghost_name

-- ---- the lists that have a name in the Rust
-- a record of a kind that holds parts one after the other
abbrev pub ListWith : {T : Type 0} → ℕ → (List ℕ → List ℕ → T → ℕ → ℕ → Type 0) → List ℕ → List ℕ → Span × T → ℕ → Type 0
ListWith kind R s b x at = Head s b kind x.0 at × R s b x.1 (at + 13) (stop_at b at)

abbrev pub type_params_rule : Given → Idents → Act
type_params_rule g is = type_params g (ident_elems g is.elems) is.span

abbrev pub params_rule : Given → Span × Fields → Act
params_rule g x = params g (field_elems g x.1) x.0

abbrev pub record_type_with : WrapStyle → Given → Span × Fields → Act
record_type_with style g x = record_type_rule g (field_elems g x.1) x.0 style

abbrev pub args_rule : Given → Span × Exprs → Act
args_rule g x = function_args g (expr_elems g x.1) x.0

abbrev pub entries_rule : Given → Span × Entries → Act
entries_rule g x = record_rule g (entry_elems g x.1) x.0
