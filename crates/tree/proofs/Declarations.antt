-- Declarations stand in the image as the relations say, since their parts do.
-- Assumes nothing.
use mathlib.Core.List.{List}
use Prim.Native.Nat.{ℕ, suc, ◌+◌, ◌≤◌}
use Rattle.image.specs.Grammar.{list, any_type, any_declaration, row_of, row_under_of, first_child}
use Rattle.image.specs.Read.{Tree, stop_at}
use Rattle.ast.specs.Syntax.{Variants}
use Rattle.tree.specs.At.{Before, Head, Maybe, IdentAt, PathAt, ListAt, TypeAt, ImportAt, BlockAt, VariantsAt, DeclarationAt}
use Rattle.tree.specs.Records.{views, each, maybe, list_of, variants}
use Rattle.tree.proofs.Children.{◌∣◌, Kid, Perhaps, All, all, always, head, before, run}
use Rattle.tree.proofs.Texts.{optional, ident, path, idents_list}
use Rattle.tree.proofs.Types.{type_at, types_at, fields_at, group_at}
use Rattle.tree.proofs.Exprs.{expr_at, block_at}

module _ (s b : List ℕ) where
  -- ---- variants of an enum
  abbrev VariantHere : Tree → ℕ → Type 0
  VariantHere t at =
      (vs : Variants) (end : ℕ) → Before b at end → VariantsAt s b vs (stop_at b at) end → VariantsAt s b ((views b t).variant vs) at end

  one_variant : (d : ℕ) → All s b d 21 VariantHere
  unfolding views VariantsAt row_under_of row_of first_child
  one_variant =
      always s b 21 VariantHere
      (λ d at end.
      (λ n vs stop l more.
      let (i, ki, (ts, kts, z)) = n.kids in
      let ls = types_at s b d _ _ _ kts in
      (head s b n, ident s b d _ _ _ ki, record { span = _; head = ls.0 }, ls.1, z, l, more))
      ∣ tt)

  abbrev VariantsHere : Tree → ℕ → Type 0
  VariantsHere t at = Head s b 3 (views b t).span at × VariantsAt s b (views b t).variants (at + 13) (stop_at b at)

  variant_list : (d : ℕ) → All s b d (list 21) VariantsHere
  unfolding views VariantsAt row_under_of first_child
  variant_list =
      always s b (list 21) VariantsHere
      (λ d at end.
      (λ n. (
        head s b n,
        run s b d 21 (stop_at b at) (λ ts i. VariantsAt s b (variants (each b ts)) i (stop_at b at)) (λ i e. e)
            (λ i t ts k more. one_variant d _ _ _ k _ _ (before s b k) more) (at + 13) n.kids,
      ))
      ∣ tt)

  -- ---- declarations
  abbrev pub DeclarationHere : Tree → ℕ → Type 0
  DeclarationHere t at = DeclarationAt s b (views b t).declaration at

  module _ (d : ℕ) (low : d ≤ 64) where
    text_of : {at end : ℕ} {t : Tree} → Kid s b d 2 at end t → IdentAt s b (views b t).ident at
    text_of k = ident s b d _ _ _ k

    params_of : {at end : ℕ} {t : Tree} → Perhaps s b d (list 2) at end t
        → Maybe s b (ListAt s b) (maybe (views b t).there (list_of (views b t))) at
    params_of k = optional s b d (list 2) list_of (ListAt s b) (idents_list s b d) _ _ _ k

    block_of : {at end : ℕ} {t : Tree} → Kid s b d 23 at end t → BlockAt s b (views b t).block at
    block_of k = block_at s b d low _ _ _ k

    pub declaration_at : All s b (suc d) any_declaration DeclarationHere
    unfolding views DeclarationAt ImportAt row_under_of row_of first_child
    declaration_at =
        all s b d any_declaration DeclarationHere
        -- 10 to 16
        (λ at end.
        (λ n.
        let (i, ki, (p, kp, (k, kk, z))) = n.kids in
        let l = fields_at s b d _ _ _ kp in
        (record { span = _; head = head s b n }, text_of ki, l.0, l.1, block_of kk, z))
        ∣ (λ n.
        let (i, ki, (t, kt, (x, kx, z))) = n.kids in
        (record { span = _; head = head s b n }, text_of ki, type_at s b d _ _ _ kt, expr_at s b d low _ _ _ kx, z))
        ∣ (λ n.
        let (i, ki, (p, kp, (f, kf, z))) = n.kids in
        let l = fields_at s b d _ _ _ kf in
        (record { span = _; head = head s b n }, text_of ki, params_of kp, l.0, l.1, z))
        ∣ (λ n.
        let (i, ki, (p, kp, (v, kv, z))) = n.kids in
        let l = variant_list d _ _ _ kv in
        (record { span = _; head = head s b n }, text_of ki, params_of kp, l.0, l.1, z))
        ∣ (λ n.
        let (i, ki, (p, kp, (t, kt, (k, kk, z)))) = n.kids in
        let l = fields_at s b d _ _ _ kp in (
          record { span = _; head = head s b n },
          text_of ki,
          l.0,
          l.1,
          optional s b d any_type (λ x. x.type) (TypeAt s b) (type_at s b d) _ _ _ kt,
          block_of kk,
          z,
        ))
        ∣ (λ n. let (i, ki, (k, kk, z)) = n.kids in (record { span = _; head = head s b n }, text_of ki, block_of kk, z))
        ∣ (λ n.
        let (p, kp, (g, kg, z)) = n.kids in
        (head s b n, optional s b d 4 (λ x. x.path) (PathAt s b) (path s b d) _ _ _ kp, group_at s b d _ _ _ kg, z))
        ∣ tt)
