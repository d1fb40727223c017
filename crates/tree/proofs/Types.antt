-- Types and imports stand in the image as the relations say, by induction on the levels left: a record's children were read with one level
-- less.
-- Assumes nothing.
use mathlib.Core.List.{List}
use Prim.Native.Nat.{ℕ, zero, suc, ◌+◌}
use Rattle.image.specs.Grammar.{list, any_type, row_of, row_under_of, first_child}
use Rattle.image.specs.Read.{Tree, node, stop_at}
use Rattle.ast.specs.Syntax.{Fields}
use Rattle.tree.specs.At.{Before, Head, PathAt, TypeAt, TypeArgsAt, TypesAt, FieldsAt, ImportAt, ImportGroupAt, ImportsAt}
use Rattle.tree.specs.Records.{views, each, types, fields, imports, maybe_args, maybe_group}
use Rattle.tree.proofs.Children.{◌∣◌, Perhaps, All, all, none, head, before, perhaps, run}
use Rattle.tree.proofs.Texts.{optional, ident, path}

module _ (s b : List ℕ) where
  abbrev pub TypeHere : Tree → ℕ → Type 0
  TypeHere t at = TypeAt s b (views b t).type at

  abbrev pub TypesHere : Tree → ℕ → Type 0
  TypesHere t at = Head s b 3 (views b t).span at × TypesAt s b (views b t).types (at + 13) (stop_at b at)

  abbrev FieldHere : Tree → ℕ → Type 0
  FieldHere t at =
      (fs : Fields) (end : ℕ) → Before b at end → FieldsAt s b fs (stop_at b at) end → FieldsAt s b ((views b t).field fs) at end

  abbrev pub FieldsHere : Tree → ℕ → Type 0
  FieldsHere t at = Head s b 3 (views b t).span at × FieldsAt s b (views b t).fields (at + 13) (stop_at b at)

  -- what is known of the records with d levels left
  record Typed (d : ℕ) : Type 0 where
    one : All s b d any_type TypeHere
    many : All s b d (list any_type) TypesHere
    field : All s b d 20 FieldHere
    fields : All s b d (list 20) FieldsHere

  module _ (d : ℕ) (w : Typed d) where
    type_args : (at end : ℕ) (t : Tree) → Perhaps s b d (list any_type) at end t
        → TypeArgsAt s b (maybe_args (views b t).there (views b t).span (views b t).types) at
    unfolding views TypeAt
    type_args at end =
        perhaps s b d (list any_type) at end (λ t. TypeArgsAt s b (maybe_args (views b t).there (views b t).span (views b t).types) at) (λ a. a)
        (λ h ts k. w.many at end (node h ts) k)

    one_type : All s b (suc d) any_type TypeHere
    unfolding views TypeAt row_under_of row_of first_child
    one_type =
        all s b d any_type TypeHere
        -- 40 to 44
        (λ at end.
        (λ n. let (t, k, e) = n.kids in (head s b n, (w.one _ _ _ k, e)))
        ∣ (λ n. let (p, kp, (t, k, e)) = n.kids in (head s b n, (path s b d _ _ _ kp, type_args _ _ _ k, e)))
        ∣ (λ n. (head s b n, n.kids))
        ∣ (λ n. (head s b n, n.kids))
        ∣ (λ n. let (t, k, e) = n.kids in let f = w.fields _ _ _ k in (head s b n, (f.0, f.1, e)))
        ∣ tt)

    type_list : All s b (suc d) (list any_type) TypesHere
    unfolding views TypeAt row_under_of first_child
    type_list =
        all s b d (list any_type) TypesHere
        (λ at end.
        (λ n. (
          head s b n,
          run s b d any_type (stop_at b at) (λ ts i. TypesAt s b (types (each b ts)) i (stop_at b at)) (λ i e. e)
              (λ i t ts k more. (w.one _ _ _ k, before s b k, more)) (at + 13) n.kids,
        ))
        ∣ tt)

    one_field : All s b (suc d) 20 FieldHere
    unfolding views TypeAt row_under_of row_of first_child
    one_field =
        all s b d 20 FieldHere
        (λ at end.
        (λ n fs stop l more. let (i, ki, (t, k, e)) = n.kids in (head s b n, ident s b d _ _ _ ki, w.one _ _ _ k, e, l, more))
        ∣ tt)

    field_list : All s b (suc d) (list 20) FieldsHere
    unfolding views TypeAt row_under_of first_child
    field_list =
        all s b d (list 20) FieldsHere
        (λ at end.
        (λ n. (
          head s b n,
          run s b d 20 (stop_at b at) (λ ts i. FieldsAt s b (fields (each b ts)) i (stop_at b at)) (λ i e. e)
              (λ i t ts k more. w.field _ _ _ k _ _ (before s b k) more) (at + 13) n.kids,
        ))
        ∣ tt)

  typed : (d : ℕ) → Typed d
  typed zero = record {
    one = none s b any_type TypeHere;
    many = none s b (list any_type) TypesHere;
    field = none s b 20 FieldHere;
    fields = none s b (list 20) FieldsHere;
  }
  typed (suc d) =
      let w = typed d in
      record { one = one_type d w; many = type_list d w; field = one_field d w; fields = field_list d w }

  pub type_at : (d : ℕ) → All s b d any_type TypeHere
  type_at d = (typed d).one

  pub types_at : (d : ℕ) → All s b d (list any_type) TypesHere
  types_at d = (typed d).many

  pub fields_at : (d : ℕ) → All s b d (list 20) FieldsHere
  fields_at d = (typed d).fields

  -- ---- imports
  abbrev pub ImportHere : Tree → ℕ → Type 0
  ImportHere t at = ImportAt s b (views b t).import at

  abbrev ImportsHere : Tree → ℕ → Type 0
  ImportsHere t at = Head s b 3 (views b t).span at × ImportsAt s b (views b t).imports (at + 13) (stop_at b at)

  record Imported (d : ℕ) : Type 0 where
    one : All s b d 16 ImportHere
    many : All s b d (list 16) ImportsHere

  module _ (d : ℕ) (w : Imported d) where
    import_group : (at end : ℕ) (t : Tree) → Perhaps s b d (list 16) at end t
        → ImportGroupAt s b (maybe_group (views b t).there (views b t).span (views b t).imports) at
    unfolding views ImportAt
    import_group at end =
        perhaps s b d (list 16) at end (λ t. ImportGroupAt s b (maybe_group (views b t).there (views b t).span (views b t).imports) at) (λ a. a)
        (λ h ts k. w.many at end (node h ts) k)

    one_import : All s b (suc d) 16 ImportHere
    unfolding views ImportAt row_under_of row_of first_child
    one_import =
        all s b d 16 ImportHere
        (λ at end.
        (λ n.
        let (p, kp, (g, kg, e)) = n.kids in
        (head s b n, optional s b d 4 (λ x. x.path) (PathAt s b) (path s b d) _ _ _ kp, import_group _ _ _ kg, e))
        ∣ tt)

    import_list : All s b (suc d) (list 16) ImportsHere
    unfolding views ImportAt row_under_of first_child
    import_list =
        all s b d (list 16) ImportsHere
        (λ at end.
        (λ n. (
          head s b n,
          run s b d 16 (stop_at b at) (λ ts i. ImportsAt s b (imports (each b ts)) i (stop_at b at)) (λ i e. e)
              (λ i t ts k more. (w.one _ _ _ k, before s b k, more)) (at + 13) n.kids,
        ))
        ∣ tt)

  imported : (d : ℕ) → Imported d
  imported zero = record { one = none s b 16 ImportHere; many = none s b (list 16) ImportsHere }
  imported (suc d) = let w = imported d in record { one = one_import d w; many = import_list d w }

  pub import_at : (d : ℕ) → All s b d 16 ImportHere
  import_at d = (imported d).one

  pub group_at : (d at end : ℕ) (t : Tree) → Perhaps s b d (list 16) at end t
      → ImportGroupAt s b (maybe_group (views b t).there (views b t).span (views b t).imports) at
  group_at d = import_group d (imported d)
