-- Expressions, blocks and statements stand in the image as the relations say, by induction on the levels left: a record's children were
-- read with one level less.
-- Assumes nothing.
use mathlib.Core.Path.{◌≡◌, refl}
use mathlib.Core.List.{List}
use Prim.Native.Nat.{ℕ, zero, suc, ◌+◌, ◌≤◌}
use native.Mathlib.Omega.{arith}
use Rattle.image.specs.Grammar.{list, up_to, any_type, any_expr, any_statement, row_of, row_under_of, first_child, payload_fits}
use Rattle.image.specs.Read.{Tree, node, stop_at}
use Rattle.ast.specs.Syntax.{Entries, Arms, Parts}
use Rattle.tree.specs.At.{Before, Head, TypeAt, left_depth, ExprAt, ExprsAt, MaybeExprAt}
use Rattle.tree.specs.At.{EntriesAt, ArmsAt, PartsAt, BlockAt, MaybeBlockAt, StmtsAt, StmtAt}
use Rattle.tree.specs.Records.{views, each, exprs, entries, arms, parts, stmts, maybe_expr, maybe_block}
use Rattle.tree.proofs.Children.{◌∣◌, Kid, Perhaps, All, all, none, head, before, perhaps, run}
use Rattle.tree.proofs.Texts.{optional, small, ident, path, literal, operator, compound_operator, pattern}
use Rattle.tree.proofs.Types.{type_at, import_at}

module _ (s b : List ℕ) where
  -- ---- how many operators stand one in the other's left operand
  abbrev Shallow : ℕ → Tree → ℕ → Type 0
  Shallow d t at = left_depth (views b t).expr ≤ d

  left : (d : ℕ) → All s b d any_expr (Shallow d)
  unfolding views left_depth row_under_of row_of first_child
  left zero = none s b any_expr (Shallow 0)
  left (suc d) =
      all s b d any_expr (Shallow (suc d))
      (λ at end.
      flat ∣ flat ∣ flat ∣ flat ∣ flat ∣ flat ∣ flat ∣ flat ∣ flat ∣ flat ∣ flat ∣ flat ∣ flat
      ∣ (λ n. let l = left d _ _ _ n.kids.1 in omega arith)
      ∣ flat ∣ flat ∣ flat ∣ flat ∣ flat ∣ flat ∣ flat ∣ tt)
    where
      flat : {A : Type 0} → A → 0 ≤ suc d
      flat n = omega arith

  -- ---- what is to be shown
  abbrev pub ExprHere : Tree → ℕ → Type 0
  ExprHere t at = ExprAt s b (views b t).expr at

  abbrev ExprsHere : Tree → ℕ → Type 0
  ExprsHere t at = Head s b 3 (views b t).span at × ExprsAt s b (views b t).exprs (at + 13) (stop_at b at)

  abbrev EntryHere : Tree → ℕ → Type 0
  EntryHere t at =
      (es : Entries) (end : ℕ) → Before b at end → EntriesAt s b es (stop_at b at) end → EntriesAt s b ((views b t).entry es) at end

  abbrev EntriesHere : Tree → ℕ → Type 0
  EntriesHere t at = Head s b 80 (views b t).span at × EntriesAt s b (views b t).entries (at + 13) (stop_at b at)

  abbrev ArmHere : Tree → ℕ → Type 0
  ArmHere t at = (more : Arms) (end : ℕ) → Before b at end → ArmsAt s b more (stop_at b at) end → ArmsAt s b ((views b t).arm more) at end

  abbrev ArmsHere : Tree → ℕ → Type 0
  ArmsHere t at = Head s b 3 (views b t).span at × ArmsAt s b (views b t).arms (at + 13) (stop_at b at)

  abbrev PartHere : Tree → ℕ → Type 0
  PartHere t at = (ps : Parts) (end : ℕ) → Before b at end → PartsAt s b ps (stop_at b at) end → PartsAt s b ((views b t).part ps) at end

  abbrev PartsHere : Tree → ℕ → Type 0
  PartsHere t at = Head s b 3 (views b t).span at × PartsAt s b (views b t).parts (at + 13) (stop_at b at)

  abbrev pub BlockHere : Tree → ℕ → Type 0
  BlockHere t at = BlockAt s b (views b t).block at

  abbrev StmtHere : Tree → ℕ → Type 0
  StmtHere t at = StmtAt s b (views b t).stmt at

  abbrev StmtsHere : Tree → ℕ → Type 0
  StmtsHere t at = Head s b 3 (views b t).span at × StmtsAt s b (views b t).stmts (at + 13) (stop_at b at)

  -- what is known of the records with d levels left
  record Known (d : ℕ) : Type 0 where
    expression : All s b d any_expr ExprHere
    exprs : All s b d (list any_expr) ExprsHere
    entry : All s b d 22 EntryHere
    entries : All s b d 80 EntriesHere
    arm : All s b d 81 ArmHere
    arms : All s b d (list 81) ArmsHere
    part : All s b d (up_to 84 85) PartHere
    parts : All s b d (list (up_to 84 85)) PartsHere
    block : All s b d 23 BlockHere
    stmt : All s b d any_statement StmtHere
    stmts : All s b d (list any_statement) StmtsHere

  module _ (d : ℕ) (w : Known d) where
    expr_of : {at end : ℕ} {t : Tree} → Kid s b d any_expr at end t → ExprHere t at
    expr_of k = w.expression _ _ _ k

    block_of : {at end : ℕ} {t : Tree} → Kid s b d 23 at end t → BlockHere t at
    block_of k = w.block _ _ _ k

    maybe_expr_lem : (at end : ℕ) (t : Tree) → Perhaps s b d any_expr at end t → MaybeExprAt s b (maybe_expr (views b t).there (views b t).expr) at
    unfolding views ExprAt
    maybe_expr_lem at end =
        perhaps s b d any_expr at end (λ t. MaybeExprAt s b (maybe_expr (views b t).there (views b t).expr) at)
        (λ a. a) (λ h ts k. w.expression at end (node h ts) k)

    maybe_block_lem : (at end : ℕ) (t : Tree) → Perhaps s b d 23 at end t → MaybeBlockAt s b (maybe_block (views b t).there (views b t).block) at
    unfolding views ExprAt
    maybe_block_lem at end =
        perhaps s b d 23 at end (λ t. MaybeBlockAt s b (maybe_block (views b t).there (views b t).block) at) (λ a. a) (λ h ts k. w.block at end (node h ts) k)

    one_expr : suc d ≤ 64 → All s b (suc d) any_expr ExprHere
    unfolding views ExprAt row_under_of row_of first_child payload_fits
    one_expr low =
        all s b d any_expr ExprHere
        -- 50 to 70
        (λ at end.
        (λ n.
        let (x, kx, z) = n.kids in
        let same : at + 13 + 1 ≡ at + 14 = omega arith in
        (head s b n, rw (← same) (record { byte = refl }, small s b 2 at (stop_at b at) n.payload, maybe_expr_lem _ _ _ kx, z)))
        ∣ (λ n. let (x, kx, z) = n.kids in let l = literal s b d _ _ _ kx in (head s b n, (l.0, l.1, z)))
        ∣ (λ n. let (k, kk, z) = n.kids in (head s b n, (block_of kk, z)))
        ∣ (λ n. let (x, kx, (a, ka, z)) = n.kids in let l = w.arms _ _ _ ka in (head s b n, (expr_of kx, l.0, l.1, z)))
        ∣ (λ n. let (x, kx, (a, ka, z)) = n.kids in let l = w.exprs _ _ _ ka in (head s b n, (expr_of kx, l.0, l.1, z)))
        ∣ (λ n. let (x, kx, (i, ki, z)) = n.kids in (head s b n, (expr_of kx, ident s b d _ _ _ ki, z)))
        ∣ (λ n. let (p, kp, z) = n.kids in (head s b n, (path s b d _ _ _ kp, z)))
        ∣ (λ n. let (r, kr, z) = n.kids in let l = w.entries _ _ _ kr in (head s b n, (l.0, l.1, z)))
        ∣ (λ n. let (p, kp, (r, kr, z)) = n.kids in let l = w.entries _ _ _ kr in (head s b n, (path s b d _ _ _ kp, l.0, l.1, z)))
        ∣ (λ n. let (x, kx, z) = n.kids in let l = w.exprs _ _ _ kx in (head s b n, (record { span = _; head = l.0 }, l.1, z)))
        ∣ (λ n. let (x, kx, z) = n.kids in (head s b n, (expr_of kx, z)))
        ∣ (λ n. let (p, kp, (x, kx, z)) = n.kids in (head s b n, (path s b d _ _ _ kp, expr_of kx, z)))
        ∣ (λ n.
        let (p, kp, (o, ko, (x, kx, z))) = n.kids in
        let op = compound_operator s b d _ _ _ ko in
        (head s b n, (path s b d _ _ _ kp, record { span = _; op = op.0 }, op.1, expr_of kx, z)))
        ∣ (λ n.
        let (l, kl, (o, ko, (r, kr, z))) = n.kids in
        let op = operator s b d _ _ _ ko in
        let deep = left d _ _ _ kl in
        (head s b n, (expr_of kl, op.0, op.1, expr_of kr, z, omega arith)))
        ∣ (λ n. let (x, kx, z) = n.kids in (head s b n, (expr_of kx, z)))
        ∣ (λ n.
        let (x, kx, (k, kk, (o, ko, z))) = n.kids in
        (head s b n, (expr_of kx, block_of kk, maybe_block_lem _ _ _ ko, z)))
        ∣ (λ n. let (x, kx, (k, kk, z)) = n.kids in (head s b n, (expr_of kx, block_of kk, z)))
        ∣ (λ n.
        let (i, ki, (x, kx, (k, kk, z))) = n.kids in
        (head s b n, (ident s b d _ _ _ ki, expr_of kx, block_of kk, z)))
        ∣ (λ n. let (x, kx, z) = n.kids in (head s b n, (expr_of kx, z)))
        ∣ (λ n. let (x, kx, z) = n.kids in let l = w.parts _ _ _ kx in (head s b n, (record { span = _; head = l.0 }, l.1, z)))
        ∣ (λ n. let (x, kx, z) = n.kids in (head s b n, (expr_of kx, z)))
        ∣ tt)

    expr_list : All s b (suc d) (list any_expr) ExprsHere
    unfolding views ExprAt row_under_of first_child
    expr_list =
        all s b d (list any_expr) ExprsHere
        (λ at end.
        (λ n. (
          head s b n,
          run s b d any_expr (stop_at b at) (λ ts i. ExprsAt s b (exprs (each b ts)) i (stop_at b at)) (λ i e. e)
              (λ i t ts k more. (expr_of k, before s b k, more)) (at + 13) n.kids,
        ))
        ∣ tt)

    one_entry : All s b (suc d) 22 EntryHere
    unfolding views ExprAt row_under_of row_of first_child
    one_entry =
        all s b d 22 EntryHere
        (λ at end.
        (λ n es stop l more. let (i, ki, (x, kx, z)) = n.kids in (head s b n, ident s b d _ _ _ ki, expr_of kx, z, l, more))
        ∣ tt)

    entry_list : All s b (suc d) 80 EntriesHere
    unfolding views ExprAt row_under_of row_of first_child
    entry_list =
        all s b d 80 EntriesHere
        (λ at end.
        (λ n. (
          head s b n,
          run s b d 22 (stop_at b at) (λ ts i. EntriesAt s b (entries (each b ts)) i (stop_at b at)) (λ i e. e)
              (λ i t ts k more. w.entry _ _ _ k _ _ (before s b k) more) (at + 13) n.kids,
        ))
        ∣ tt)

    one_arm : All s b (suc d) 81 ArmHere
    unfolding views ExprAt row_under_of row_of first_child
    one_arm =
        all s b d 81 ArmHere
        (λ at end.
        (λ n es stop l more.
        let (p, kp, (g, kg, (x, kx, z))) = n.kids in
        (head s b n, pattern s b d _ _ _ kp, maybe_expr_lem _ _ _ kg, expr_of kx, z, l, more))
        ∣ tt)

    arm_list : All s b (suc d) (list 81) ArmsHere
    unfolding views ExprAt row_under_of first_child
    arm_list =
        all s b d (list 81) ArmsHere
        (λ at end.
        (λ n. (
          head s b n,
          run s b d 81 (stop_at b at) (λ ts i. ArmsAt s b (arms (each b ts)) i (stop_at b at)) (λ i e. e)
              (λ i t ts k more. w.arm _ _ _ k _ _ (before s b k) more) (at + 13) n.kids,
        ))
        ∣ tt)

    one_part : All s b (suc d) (up_to 84 85) PartHere
    unfolding views ExprAt row_under_of row_of first_child
    one_part =
        all s b d (up_to 84 85) PartHere
        (λ at end.
        (λ n ps stop l more. (head s b n, n.kids, l, more))
        ∣ (λ n ps stop l more. let (x, kx, z) = n.kids in (record { span = _; head = head s b n }, expr_of kx, z, l, more))
        ∣ tt)

    part_list : All s b (suc d) (list (up_to 84 85)) PartsHere
    unfolding views ExprAt row_under_of first_child
    part_list =
        all s b d (list (up_to 84 85)) PartsHere
        (λ at end.
        (λ n. (
          head s b n,
          run s b d (up_to 84 85) (stop_at b at) (λ ts i. PartsAt s b (parts (each b ts)) i (stop_at b at)) (λ i e. e)
              (λ i t ts k more. w.part _ _ _ k _ _ (before s b k) more) (at + 13) n.kids,
        ))
        ∣ tt)

    one_block : All s b (suc d) 23 BlockHere
    unfolding views ExprAt row_under_of row_of first_child
    one_block =
        all s b d 23 BlockHere
        (λ at end.
        (λ n.
        let (ss, ks, (x, kx, z)) = n.kids in
        let l = w.stmts _ _ _ ks in
        (head s b n, record { span = _; head = l.0 }, l.1, maybe_expr_lem _ _ _ kx, z))
        ∣ tt)

    one_stmt : All s b (suc d) any_statement StmtHere
    unfolding views ExprAt row_under_of row_of first_child
    one_stmt =
        all s b d any_statement StmtHere
        -- 30 to 32
        (λ at end.
        (λ n.
        let (i, ki, (t, kt, (x, kx, z))) = n.kids in
        (head s b n, (ident s b d _ _ _ ki, optional s b d any_type (λ x. x.type) (TypeAt s b) (type_at s b d) _ _ _ kt, expr_of kx, z)))
        ∣ (λ n. let (p, kp, z) = n.kids in (head s b n, (import_at s b d _ _ _ kp, z)))
        ∣ (λ n. let (x, kx, z) = n.kids in (head s b n, (expr_of kx, z)))
        ∣ tt)

    stmt_list : All s b (suc d) (list any_statement) StmtsHere
    unfolding views ExprAt row_under_of first_child
    stmt_list =
        all s b d (list any_statement) StmtsHere
        (λ at end.
        (λ n. (
          head s b n,
          run s b d any_statement (stop_at b at) (λ ts i. StmtsAt s b (stmts (each b ts)) i (stop_at b at)) (λ i e. e)
              (λ i t ts k more. (w.stmt _ _ _ k, before s b k, more)) (at + 13) n.kids,
        ))
        ∣ tt)

  known : (d : ℕ) → d ≤ 64 → Known d
  known zero low =
      record {
        expression = none s b any_expr ExprHere;
        exprs = none s b (list any_expr) ExprsHere;
        entry = none s b 22 EntryHere;
        entries = none s b 80 EntriesHere;
        arm = none s b 81 ArmHere;
        arms = none s b (list 81) ArmsHere;
        part = none s b (up_to 84 85) PartHere;
        parts = none s b (list (up_to 84 85)) PartsHere;
        block = none s b 23 BlockHere;
        stmt = none s b any_statement StmtHere;
        stmts = none s b (list any_statement) StmtsHere;
      }
  known (suc d) low =
      let w = known d (omega arith) in
      record {
        expression = one_expr d w low;
        exprs = expr_list d w;
        entry = one_entry d w;
        entries = entry_list d w;
        arm = one_arm d w;
        arms = arm_list d w;
        part = one_part d w;
        parts = part_list d w;
        block = one_block d w;
        stmt = one_stmt d w;
        stmts = stmt_list d w;
      }

  pub expr_at : (d : ℕ) → d ≤ 64 → All s b d any_expr ExprHere
  expr_at d low = (known d low).expression

  pub block_at : (d : ℕ) → d ≤ 64 → All s b d 23 BlockHere
  block_at d low = (known d low).block
