-- The syntax tree of an accepted image is not much higher than the records that were read, which are 64 deep at most. Where a child is
-- missing that the grammar asks for, what stands for it is three records high at most; so three more than the levels are always enough,
-- and nothing is asked of the grammar.
-- Assumes nothing.
use Prim.Native.Nat.{ℕ, zero, suc, ◌+◌, ◌≤◌, max}
use mathlib.Core.Path.{◌≡◌, refl, ap}
use mathlib.Core.Bool.{Bool, true, false, cond, false≢true}
use mathlib.Core.List.{List, [], ◌∷◌}
use native.Mathlib.Omega.{arith}
use lib.ListN.{length}
use lib.Dec.{ltb, eqb}
use Rattle.image.specs.Grammar.{bare, place, after, complete}
use Rattle.image.specs.Read.{Read, got, bad, bind, Head, Tree, Trees, absent, node, nil, ◌▸◌, skips, child_by, record_at, children_at, tree_at}
use Rattle.image.proofs.Shapes.{is_got}
use Rattle.image.proofs.Inside.{inside, none_deep}
use Rattle.ast.specs.Syntax.{Span, TypeExpr, Types, Fields, Imports, Expr, Entries, Arms, Parts, Block, Variants}
use Rattle.tree.specs.Records as records
use Rattle.tree.specs.Records.{Views, Forms, else, ◌⇒◌∣◌, form, nothing, views_of, views, each, syntax_tree}
use Rattle.layout_facts.specs.Height.{levels, levels_in, type_height, type_form_height, args_height, types_height, fields_height, import_height, group_height}
use Rattle.layout_facts.specs.Height.{imports_height, maybe_type_height, expr_height, form_height, exprs_height, maybe_height, entries_height, arms_height}
use Rattle.layout_facts.specs.Height.{parts_height, block_height, maybe_block_height, stmts_height, stmt_height, stmt_form_height, variants_height}
use Rattle.layout_facts.specs.Height.{declaration_height, declarations_height, tree_height}

-- ---- the reader's levels
children_few : (one : ℕ → ℕ → ℕ → Read Tree) (l : ℕ) → ((p at stop : ℕ) (t : Tree) (q : ℕ) → one p at stop ≡ got t q → levels t ≤ l)
    → (n row at stop : ℕ) (ts : Trees) (e : ℕ) → children_at one n row at stop ≡ got ts e → levels_in ts ≤ l
unfolding children_at levels
children_few one l f zero row at stop ts e h = absurd (false≢true (ap is_got h))
children_few one l f (suc n) row at stop ts e h = go (ltb at stop) (eqb row 0) (complete row) (children_few one l f n (after row)) h
  where
    tails : (t : Tree) (x : Read Trees) → levels t ≤ l → ((us : Trees) (k : ℕ) → x ≡ got us k → levels_in us ≤ l)
        → bind x (λ us end. got (t ▸ us) end) ≡ got ts e → levels_in ts ≤ l
    tails t (got us k) low g h =
        let same : t ▸ us ≡ ts = cc in
        let rest : levels_in us ≤ l = g us k refl in
        rw (← same) (omega arith)
    tails t (bad m k) low g h = absurd (false≢true (ap is_got h))

    heads : (x : Read Tree) → one (place row) at stop ≡ x
        → ((a z : ℕ) (us : Trees) (k : ℕ) → children_at one n (after row) a z ≡ got us k → levels_in us ≤ l)
        → bind x (λ t next. bind (children_at one n (after row) next stop) (λ us end. got (t ▸ us) end)) ≡ got ts e → levels_in ts ≤ l
    heads (got t k) o g h = tails t (children_at one n (after row) k stop) (f (place row) at stop t k o) (g k stop) h
    heads (bad m k) o g h = absurd (false≢true (ap is_got h))

    go : (t₁ t₂ t₃ : Bool) → ((a z : ℕ) (us : Trees) (k : ℕ) → children_at one n (after row) a z ≡ got us k → levels_in us ≤ l)
        → cond t₁
        (cond t₂ (bad 4 at) (bind (one (place row) at stop) (λ t next. bind (children_at one n (after row) next stop) (λ us end. got (t ▸ us) end))))
        (cond t₃ (got nil stop) (bad 4 at))
        ≡ got ts e → levels_in ts ≤ l
    go true true t₃ g h = absurd (false≢true (ap is_got h))
    go true false t₃ g h = heads (one (place row) at stop) refl g h
    go false t₂ true g h = let same : nil ≡ ts = cc in rw (← same) (omega arith)
    go false t₂ false g h = absurd (false≢true (ap is_got h))

child_few : (b : List ℕ) (one : ℕ → ℕ → ℕ → Read Tree) (l : ℕ) → ((p at stop : ℕ) (t : Tree) (q : ℕ) → one p at stop ≡ got t q → levels t ≤ l)
    → (p at stop : ℕ) (t : Tree) (q : ℕ) → child_by b one p at stop ≡ got t q → levels t ≤ l
unfolding levels
child_few b one l f p at stop t q h = go (skips b p at stop) h
  where
    go : (x : Bool) → cond x (got absent (at + 4)) (one (bare p) at stop) ≡ got t q → levels t ≤ l
    go true h = let same : absent ≡ t = cc in rw (← same) (omega arith)
    go false h = f (bare p) at stop t q h

-- a record is no higher than the levels that were left for it
record_few : (s b : List ℕ) (v left p at end : ℕ) (t : Tree) (q : ℕ) → record_at s b v left p at end ≡ got t q → levels t ≤ left
unfolding levels
record_few s b v zero p at end t q h = absurd (none_deep s b v p at end t q h)
record_few s b v (suc left) p at end t q h =
    let i = inside s b v left p at end t q h in
    let few : levels_in i.trees ≤ left =
    children_few (child_by b (record_at s b v left)) left (child_few b (record_at s b v left) left (record_few s b v left)) _ _ _ _ i.trees _ i.kept
    in
    rw i.is (omega arith)

-- ---- the syntax tree of a tree
-- what is made of a record stands no more than n records high; a list counts itself
record High (n : ℕ) (x : Views) : Type 0 where
  type : type_height x.type ≤ n
  field : (fs : Fields) → fields_height (x.field fs) ≤ max n (fields_height fs)
  import : import_height x.import ≤ n
  expr : expr_height x.expr ≤ n
  entry : (es : Entries) → entries_height (x.entry es) ≤ max n (entries_height es)
  arm : (more : Arms) → arms_height (x.arm more) ≤ max n (arms_height more)
  part : (ps : Parts) → parts_height (x.part ps) ≤ max n (parts_height ps)
  block : block_height x.block ≤ n
  stmt : stmt_height x.stmt ≤ n
  variant : (vs : Variants) → variants_height (x.variant vs) ≤ max n (variants_height vs)
  declaration : declaration_height x.declaration ≤ n
  types : 1 + types_height x.types ≤ n
  fields : 1 + fields_height x.fields ≤ n
  imports : 1 + imports_height x.imports ≤ n
  exprs : 1 + exprs_height x.exprs ≤ n
  entries : 1 + entries_height x.entries ≤ n
  arms : 1 + arms_height x.arms ≤ n
  parts : 1 + parts_height x.parts ≤ n
  stmts : 1 + stmts_height x.stmts ≤ n
  variants : 1 + variants_height x.variants ≤ n

high_nothing : {n : ℕ} → 3 ≤ n → High n nothing
unfolding type_height import_height expr_height variants_height declaration_height
high_nothing h =
    record {
      type = omega arith;
      field = λ fs. omega arith;
      import = omega arith;
      expr = omega arith;
      entry = λ es. omega arith;
      arm = λ more. omega arith;
      part = λ ps. omega arith;
      block = omega arith;
      stmt = omega arith;
      variant = λ vs. omega arith;
      declaration = omega arith;
      types = omega arith;
      fields = omega arith;
      imports = omega arith;
      exprs = omega arith;
      entries = omega arith;
      arms = omega arith;
      parts = omega arith;
      stmts = omega arith;
      variants = omega arith;
    }

-- ---- children by their place, and lists of them
data Highs (n : ℕ) : List Views → Type 0 where
  end : Highs n []
  more : {x : Views} {xs : List Views} → High n x → Highs n xs → Highs n (x ∷ xs)

high_first : {n : ℕ} {xs : List Views} → 3 ≤ n → Highs n xs → High n (records.first xs)
high_first l end = high_nothing l
high_first l (more x xs) = x

highs_rest : {n : ℕ} {xs : List Views} → Highs n xs → Highs n (records.rest xs)
highs_rest end = end
highs_rest (more x xs) = xs

high_types : {n : ℕ} {xs : List Views} → Highs n xs → types_height (records.types xs) ≤ n
unfolding type_height
high_types end = omega arith
high_types (more x xs) = omega (arith, x.type, high_types xs)

high_fields : {n : ℕ} {xs : List Views} → Highs n xs → fields_height (records.fields xs) ≤ n
unfolding type_height
high_fields end = omega arith
high_fields (more {xs = rest} x xs) = omega (arith, x.field (records.fields rest), high_fields xs)

high_imports : {n : ℕ} {xs : List Views} → Highs n xs → imports_height (records.imports xs) ≤ n
unfolding import_height
high_imports end = omega arith
high_imports (more x xs) = omega (arith, x.import, high_imports xs)

high_exprs : {n : ℕ} {xs : List Views} → Highs n xs → exprs_height (records.exprs xs) ≤ n
unfolding expr_height
high_exprs end = omega arith
high_exprs (more x xs) = omega (arith, x.expr, high_exprs xs)

high_entries : {n : ℕ} {xs : List Views} → Highs n xs → entries_height (records.entries xs) ≤ n
unfolding expr_height
high_entries end = omega arith
high_entries (more {xs = rest} x xs) = omega (arith, x.entry (records.entries rest), high_entries xs)

high_arms : {n : ℕ} {xs : List Views} → Highs n xs → arms_height (records.arms xs) ≤ n
unfolding expr_height
high_arms end = omega arith
high_arms (more {xs = rest} x xs) = omega (arith, x.arm (records.arms rest), high_arms xs)

high_parts : {n : ℕ} {xs : List Views} → Highs n xs → parts_height (records.parts xs) ≤ n
unfolding expr_height
high_parts end = omega arith
high_parts (more {xs = rest} x xs) = omega (arith, x.part (records.parts rest), high_parts xs)

high_stmts : {n : ℕ} {xs : List Views} → Highs n xs → stmts_height (records.stmts xs) ≤ n
unfolding expr_height
high_stmts end = omega arith
high_stmts (more x xs) = omega (arith, x.stmt, high_stmts xs)

high_variants : {n : ℕ} {xs : List Views} → Highs n xs → variants_height (records.variants xs) ≤ n
unfolding variants_height
high_variants end = omega arith
high_variants (more {xs = rest} x xs) = omega (arith, x.variant (records.variants rest), high_variants xs)

high_declarations : {n : ℕ} {xs : List Views} → Highs n xs → declarations_height (records.declarations xs) ≤ n
unfolding declarations_height
high_declarations end = omega arith
high_declarations (more x xs) = omega (arith, x.declaration, high_declarations xs)

-- ---- a child that may be absent
maybe_args_lem : (t : Bool) (s : Span) (ts : Types) → args_height (records.maybe_args t s ts) ≤ 1 + types_height ts
unfolding type_height
maybe_args_lem true s ts = omega arith
maybe_args_lem false s ts = omega arith

maybe_group_lem : (t : Bool) (s : Span) (is : Imports) → group_height (records.maybe_group t s is) ≤ 1 + imports_height is
unfolding import_height
maybe_group_lem true s is = omega arith
maybe_group_lem false s is = omega arith

maybe_expr_lem : (t : Bool) (e : Expr) → maybe_height (records.maybe_expr t e) ≤ expr_height e
unfolding expr_height
maybe_expr_lem true e = omega arith
maybe_expr_lem false e = omega arith

maybe_block_lem : (t : Bool) (b : Block) → maybe_block_height (records.maybe_block t b) ≤ block_height b
unfolding expr_height
maybe_block_lem true b = omega arith
maybe_block_lem false b = omega arith

maybe_type : (t : Bool) (x : TypeExpr) → maybe_type_height (records.maybe t x) ≤ type_height x
maybe_type true x = omega arith
maybe_type false x = omega arith

-- ---- the forms of a part
abbrev AllForms : {A : Type 0} → (A → Type 0) → Forms A → Type 0
AllForms P (else a) = P a
AllForms P (k ⇒ a ∣ fs) = P a × AllForms P fs

form_is : {A : Type 0} (P : A → Type 0) (k : ℕ) (fs : Forms A) → AllForms P fs → P (form k fs)
form_is P k (else a) p = p
form_is P k (n ⇒ a ∣ fs) p = go (eqb k n) (form_is P k fs p.1)
  where
    go : (t : Bool) → P (form k fs) → P (cond t a (form k fs))
    go true q = p.0
    go false q = q

module _ (b : List ℕ) {n : ℕ} (l : 3 ≤ n) {xs : List Views} (h : Highs n xs) where
  abbrev x₁ : Views
  x₁ = records.first xs

  abbrev x₂ : Views
  x₂ = records.second xs

  abbrev x₃ : Views
  x₃ = records.third xs

  abbrev x₄ : Views
  x₄ = records.fourth xs

  h₁ : High n x₁
  h₁ = high_first l h

  h₂ : High n x₂
  h₂ = high_first l (highs_rest h)

  h₃ : High n x₃
  h₃ = high_first l (highs_rest (highs_rest h))

  h₄ : High n x₄
  h₄ = high_first l (highs_rest (highs_rest (highs_rest h)))

  high_type_form : (k : ℕ) → type_form_height (form k (records.type_forms xs)) ≤ n
  unfolding type_height
  high_type_form k =
      form_is (λ f. type_form_height f ≤ n) k (records.type_forms xs) (
        h₁.type,
        (omega (arith, maybe_args_lem x₂.there x₂.span x₂.types, h₂.types), (omega arith, (omega arith, h₁.fields))),
      )

  high_import : (s : Span) → import_height (records.import_of s xs) ≤ suc n
  unfolding import_height
  high_import s = omega (arith, maybe_group_lem x₂.there x₂.span x₂.imports, h₂.imports)

  high_form : (k byte : ℕ) → form_height (form k (records.expr_forms byte xs)) ≤ n
  unfolding expr_height
  high_form k byte =
      let e₁ = h₁.expr in
      let e₂ = h₂.expr in
      let e₃ = h₃.expr in
      let b₂ = h₂.block in
      form_is (λ f. form_height f ≤ n) k (records.expr_forms byte xs) (
        omega (arith, maybe_expr_lem x₁.there x₁.expr, e₁),
        (
          omega arith,
          (
            h₁.block,
            (
              omega (arith, e₁, h₂.arms),
              (
                omega (arith, e₁, h₂.exprs),
                (
                  e₁,
                  (
                    omega arith,
                    (
                      h₁.entries,
                      (
                        h₂.entries,
                        (
                          h₁.exprs,
                          (
                            e₁,
                            (
                              e₂,
                              (
                                e₃,
                                (
                                  omega (arith, e₁, e₃),
                                  (
                                    e₁,
                                    (
                                      omega (arith, e₁, b₂, maybe_block_lem x₃.there x₃.block, h₃.block),
                                      (
                                        omega (arith, e₁, b₂),
                                        (
                                          omega (arith, e₂, h₃.block),
                                          (
                                            e₁,
                                            (
                                              h₁.parts,
                                              e₁,
                                            ),
                                          ),
                                        ),
                                      ),
                                    ),
                                  ),
                                ),
                              ),
                            ),
                          ),
                        ),
                      ),
                    ),
                  ),
                ),
              ),
            ),
          ),
        ),
      )

  high_part : (k : ℕ) (s : Span) (ps : Parts) → parts_height (form k (records.fstring_parts s xs) ps) ≤ max (suc n) (parts_height ps)
  unfolding expr_height
  high_part k s ps =
      form_is (λ f. parts_height (f ps) ≤ max (suc n) (parts_height ps)) k (records.fstring_parts s xs) (omega arith, omega (arith, h₁.expr))

  high_stmt_form : (k : ℕ) → stmt_form_height (form k (records.stmt_forms xs)) ≤ n
  unfolding expr_height
  high_stmt_form k =
      form_is (λ f. stmt_form_height f ≤ n) k (records.stmt_forms xs)
      (omega (arith, maybe_type x₂.there x₂.type, h₂.type, h₃.expr), (h₁.import, h₁.expr))

  high_declaration : (k : ℕ) (s : Span) → declaration_height (form k (records.declaration_forms s xs)) ≤ suc n
  unfolding declaration_height
  high_declaration k s =
      form_is (λ d. declaration_height d ≤ suc n) k (records.declaration_forms s xs) (
        omega (arith, h₂.fields, h₃.block),
        (
          omega (arith, h₂.type, h₃.expr),
          (
            omega (arith, h₃.fields),
            (
              omega (arith, h₃.variants),
              (
                omega (arith, h₂.fields, maybe_type x₃.there x₃.type, h₃.type, h₄.block),
                (
                  omega (arith, h₂.block),
                  high_import s,
                ),
              ),
            ),
          ),
        ),
      )

  -- a record is one higher than its children
  high_node : (hd : Head) → High (suc n) (views_of b hd xs)
  unfolding type_height expr_height variants_height
  high_node hd =
      record {
        type = omega (arith, high_type_form hd.kind);
        field = λ fs. omega (arith, h₂.type);
        import = high_import (records.span_of hd);
        expr = omega (arith, high_form hd.kind (records.byte_of b hd));
        entry = λ es. omega (arith, h₂.expr);
        arm = λ more. omega (arith, maybe_expr_lem x₂.there x₂.expr, h₂.expr, h₃.expr);
        part = λ ps. high_part hd.kind (records.span_of hd) ps;
        block = omega (arith, h₁.stmts, maybe_expr_lem x₂.there x₂.expr, h₂.expr);
        stmt = omega (arith, high_stmt_form hd.kind);
        variant = λ vs. omega (arith, h₂.types);
        declaration = high_declaration hd.kind (records.span_of hd);
        types = omega (arith, high_types h);
        fields = omega (arith, high_fields h);
        imports = omega (arith, high_imports h);
        exprs = omega (arith, high_exprs h);
        entries = omega (arith, high_entries h);
        arms = omega (arith, high_arms h);
        parts = omega (arith, high_parts h);
        stmts = omega (arith, high_stmts h);
        variants = omega (arith, high_variants h);
      }

mutual
  unfolding views levels

  high_views : (t : Tree) (b : List ℕ) (n : ℕ) → 3 + levels t ≤ n → High n (views b t)
  high_views absent b n h = high_nothing h
  high_views (node hd ts) b zero h = absurd (omega arith)
  high_views (node hd ts) b (suc n) h = high_node b (omega arith) (high_each ts b n (omega arith)) hd

  high_each : (ts : Trees) (b : List ℕ) (n : ℕ) → 3 + levels_in ts ≤ n → Highs n (each b ts)
  high_each nil b n h = end
  high_each (t ▸ ts) b n h = more (high_views t b n (omega arith)) (high_each ts b n (omega arith))

-- ---- the whole tree
tree_high : (b : List ℕ) (t : Tree) → tree_height (syntax_tree b t) ≤ 3 + levels t
unfolding syntax_tree levels tree_height declarations_height
tree_high b absent = omega arith
tree_high b (node h ts) = omega (arith, high_declarations (highs_rest (high_each ts b (3 + levels_in ts) (omega arith))))

-- the tree of an accepted image
pub accepted_high : (s b : List ℕ) (v p at : ℕ) (t : Tree) (q : ℕ) → tree_at s b v p at ≡ got t q → tree_height (syntax_tree b t) ≤ 67
unfolding tree_at
accepted_high s b v p at t q h = omega (arith, tree_high b t, record_few s b v 64 p at (length b) t q h)
