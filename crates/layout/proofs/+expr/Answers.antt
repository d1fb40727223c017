use Prim.Native.Nat.{◌+◌, ℕ, ◌*◌, ◌-◌, ◌/◌}
use mathlib.Core.Path.{◌∙◌, ◌≡◌, refl, sym, ap, subst}
use native.Mathlib.Omega.{arith}
use Rattle.acts.proofs.Laws.{room_first, room_next, lays_then, lays_if, lays_else, room_if, room_else, lays, lays_skip}
use Rattle.layout.proofs.Lays.{lays_as, laid_as, has_at, lays_tail, lays_all, laid_all, laid_tail}
use Rattle.tree.specs.At.{ExprAt, StmtAt}
use Rattle.acts.proofs.Closes.{closes_call, closes_group, closes_indent, closes_indent_next}
use Rattle.acts.proofs.Nested.{opens_group, room_group, opens_indent_next, room_indent_next, opens_indent, room_indent, opens_called}
use Rattle.acts.proofs.Nested.{room_called, room_called_next}
use Rattle.layout.specs.Layout as rules
use lib.Dec.{ltb}
use Rattle.layout.specs.Ranks.{rank}
use Rattle.layout.proofs.Ranks.{below_rank}
use Rattle.layout.specs.declared.forms.Precedence.TheVariants.{Chain}
use Rattle.layout.proofs.Places.{within, expr_whole, maybe_expr_lem, ident_whole, maybe_type, head_whole, path_whole, absent, present}
use Rattle.layout.proofs.Places.{block_whole, maybe_block_lem, stmt_whole}
use Rattle.layout.proofs.ExprForms.{comma_laid, comma_room, whole_has, whole_laid, expr_is, expr_has_kind, expr_has, expr_laid}
use Rattle.layout.specs.Numbers.{expr_number, stmt_number}
use Rattle.layout.specs.declared.kinds.FStringPart.TheVariants as parts
use Rattle.layout.proofs.KindTests.{is_part, other_part}
use Rattle.image.specs.Bytes.{be32}
use Rattle.image.specs.Read.{stop_at}
use Rattle.ast.specs.Syntax.{bin_op, Expr}
use Rattle.ast.specs.Syntax as syntax
use Rattle.comments.specs.Listed.{given}
use Rattle.layout.specs.Forms.{four, expr_with}
use Rattle.layout.proofs.Operands.{above_size, chain_room, chain_laid, chain_form, above_at, Going, going_next, operator_has, right_has}
use Rattle.layout.proofs.Operands.{going_step, going_end}
use Rattle.layout.proofs.Bodies.{block_parts, block_has, block_laid, body_has, body_laid, text_has, value_has, text_laid, value_laid}
use Rattle.layout.proofs.Bodies.{parts_first, part_has_kind, stmt_has_kind, part_has, parts_rest, parts_none, parts_more, parts_in, let_has}
use Rattle.layout.proofs.Bodies.{import_has, does_has, let_laid, import_stmt_lem, does_laid, stmts_first, before_stmt_room, stmt_has}
use Rattle.layout.proofs.Bodies.{after_stmt_room, stmts_rest, stmts_none, stmts_more, stmts_in}
use Rattle.layout.specs.Elems.{EntryAt, entry_rule, ArmAt, arm_rule, grouped_rule}
use Rattle.layout.proofs.Listing.{has_each, lays_each}
use Rattle.layout.proofs.Runs.{list_of, grouped_elems_lem, expr_elems_lem, arm_elems_lem, entry_elems_lem}
use lib.ListN.{get_or}
use Rattle.acts.specs.Spelling.{spelling}
use Rattle.layout.proofs.Optionals.{has_block, no_else, some_else, has_last, no_last, some_last, has_expr, no_maybe, some_maybe}
use mathlib.Core.Bool.{true, false}
use Rattle.layout.specs.Chains.{Above, grown}
use Rattle.layout.proofs.Walking.{next_part, none_left}
use Rattle.layout.proofs.+expr.Goals as goal

pub access-second-p-requires : goal.access-second-p-requires
unfolding ExprAt
access-second-p-requires t c = within (expr_whole _ _ _ c.requires.tree.1.0 c.requires.held.1.0)

pub access-open-group-requires : goal.access-open-group-requires
unfolding ExprAt rules.expr_with_precedence
access-open-group-requires t c =
    opens_group _ (room_if _ (sym (below_rank c.args.outer Chain) ∙ sym c.lt.ensures ∙ c.if-lt.true) c.requires.room)

pub access-open-indent-requires : goal.access-open-indent-requires
unfolding ExprAt rules.expr_with_precedence
access-open-indent-requires t c =
    opens_indent_next _
    (room_group _ (room_if _ (sym (below_rank c.args.outer Chain) ∙ sym c.lt.ensures ∙ c.if-lt.true) c.requires.room)
    c.open-group.ensures.opened)

pub access-expr_with_precedence-requires : goal.access-expr_with_precedence-requires
unfolding ExprAt rules.expr_with_precedence
access-expr_with_precedence-requires t c = (
  omega (arith, c.decreases, c.requires.held.1.2.same),
  record {
    accepted = c.requires.accepted;
    tree = c.requires.tree.1.0;
    held = c.requires.held.1.0;
    room =
        room_first _ (room_indent_next
        (room_group _ (room_if _ (sym (below_rank c.args.outer Chain) ∙ sym c.lt.ensures ∙ c.if-lt.true) c.requires.room) c.open-group.ensures.opened)
        c.open-indent.ensures.opened);
  },
)

pub access-field_name-requires : goal.access-field_name-requires
unfolding ExprAt rules.expr_with_precedence
access-field_name-requires t c =
    rw c.second-p.ensures (record {
      accepted = c.requires.accepted;
      tree = c.requires.tree.1.1;
      held = c.requires.held.1.1;
      room =
          room_next (room_indent_next
          (room_group _ (room_if _ (sym (below_rank c.args.outer Chain) ∙ sym c.lt.ensures ∙ c.if-lt.true) c.requires.room)
          c.open-group.ensures.opened)
          c.open-indent.ensures.opened)
          ((lays_as c.requires.accepted c.expr_with_precedence.ensures).of c.requires.tree.1.0
          c.requires.held.1.0);
    })

pub access-returns-then-lt : goal.access-returns-then-lt
unfolding ExprAt rules.expr_with_precedence
access-returns-then-lt t c =
    laid_as (cc)
    (record {
      of =
          λ x a.
          lays_if _ (sym (below_rank c.args.outer Chain) ∙ sym c.lt.ensures ∙ c.if-lt.true)
          (closes_group _ c.open-group.ensures
          (closes_indent_next c.open-indent.ensures
          (lays_then ((lays_as c.requires.accepted c.expr_with_precedence.ensures).of x.1.0 a.1.0)
          ((lays_as c.requires.accepted c.field_name.ensures).of x.1.1 (rw c.second-p.ensures a.1.1)))
          c.close.ensures)
          c.close-then-lt.ensures);
    })

pub access-expr_with_precedence-requires-2 : goal.access-expr_with_precedence-requires-2
unfolding ExprAt rules.expr_with_precedence
access-expr_with_precedence-requires-2 t c = (
  omega (arith, c.decreases, c.requires.held.1.2.same),
  record {
    accepted = c.requires.accepted;
    tree = c.requires.tree.1.0;
    held = c.requires.held.1.0;
    room = room_first _ (room_else _ (sym (below_rank c.args.outer Chain) ∙ sym c.lt.ensures ∙ c.if-lt.false) c.requires.room);
  },
)

pub access-field_name-requires-2 : goal.access-field_name-requires-2
unfolding ExprAt rules.expr_with_precedence
access-field_name-requires-2 t c =
    rw c.second-p.ensures (record {
      accepted = c.requires.accepted;
      tree = c.requires.tree.1.1;
      held = c.requires.held.1.1;
      room =
          room_next (room_else _ (sym (below_rank c.args.outer Chain) ∙ sym c.lt.ensures ∙ c.if-lt.false) c.requires.room) ((lays_as c.requires.accepted
          c.expr_with_precedence-2.ensures).of c.requires.tree.1.0 c.requires.held.1.0);
    })

pub access-returns : goal.access-returns
unfolding ExprAt rules.expr_with_precedence
access-returns t c =
    laid_as (cc)
    (record {
      of =
          λ x a.
          lays_else _ (sym (below_rank c.args.outer Chain) ∙ sym c.lt.ensures ∙ c.if-lt.false)
          (lays_then ((lays_as c.requires.accepted c.expr_with_precedence-2.ensures).of x.1.0 a.1.0)
          ((lays_as c.requires.accepted c.field_name-2.ensures).of x.1.1 (rw c.second-p.ensures a.1.1)));
    })

pub after-word-requires : goal.after-word-requires
after-word-requires t c = room_first _ c.requires.room

pub after-expr_with_precedence-requires : goal.after-expr_with_precedence-requires
after-expr_with_precedence-requires t c =
    (omega (arith, c.decreases), has_at c.requires (room_next c.requires.room (lays c.word.ensures.laid)))

pub after-returns : goal.after-returns
after-returns t c =
    laid_as (cc) (record {
      of = λ e a. lays_then (lays c.word.ensures.laid) ((lays_as c.requires.accepted c.expr_with_precedence.ensures).of e a);
    })

pub arm-pattern-requires : goal.arm-pattern-requires
arm-pattern-requires t c =
    (record { accepted = c.requires.accepted; tree = c.requires.tree.1; held = c.requires.held.1; room = room_first _ c.requires.room })

pub arm-maybe-requires : goal.arm-maybe-requires
arm-maybe-requires t c =
    rw c.second-p.ensures (
      omega (arith, c.decreases, c.requires.held.4.same),
      record {
        accepted = c.requires.accepted;
        tree = c.requires.tree.2;
        held = c.requires.held.2;
        room =
            room_first _ (room_next c.requires.room
            ((lays_as c.requires.accepted c.pattern.ensures).of c.requires.tree.1 c.requires.held.1));
      },
    )

pub arm-word-requires : goal.arm-word-requires
arm-word-requires t c =
    room_first _ (room_next
    (room_next c.requires.room ((lays_as c.requires.accepted c.pattern.ensures).of c.requires.tree.1 c.requires.held.1))
    ((lays_as c.requires.accepted c.maybe.ensures).of c.requires.tree.2 (rw c.second-p.ensures c.requires.held.2)))

pub arm-expr-requires : goal.arm-expr-requires
arm-expr-requires t c =
    rw c.third-q.ensures (
      omega (arith, c.decreases, c.requires.held.4.same),
      record {
        accepted = c.requires.accepted;
        tree = c.requires.tree.3;
        held = c.requires.held.3;
        room =
            room_first _ (room_next (room_next (room_next c.requires.room
            ((lays_as c.requires.accepted c.pattern.ensures).of c.requires.tree.1 c.requires.held.1))
            ((lays_as c.requires.accepted c.maybe.ensures).of c.requires.tree.2
            (rw c.second-p.ensures c.requires.held.2)))
            (lays c.word.ensures.laid));
      },
    )

pub arm-arm_comma-requires : goal.arm-arm_comma-requires
arm-arm_comma-requires t c =
    rw c.third-q.ensures (record {
      has_kind = expr_has_kind _ _ _ c.requires.tree.3 c.requires.held.3;
      room = comma_room _ _ _ c.requires.tree.3 _ c.requires.held.3 (room_next (room_next (room_next (room_next c.requires.room
          ((lays_as c.requires.accepted c.pattern.ensures).of c.requires.tree.1 c.requires.held.1))
          ((lays_as c.requires.accepted c.maybe.ensures).of c.requires.tree.2
          (rw c.second-p.ensures c.requires.held.2)))
          (lays c.word.ensures.laid))
          ((lays_as c.requires.accepted c.expr.ensures).of c.requires.tree.3 (rw c.third-q.ensures c.requires.held.3)));
    })

pub arm-returns : goal.arm-returns
arm-returns t c =
    laid_as (cc)
    (let m = rw c.third-q.ensures at (lays c.arm_comma.ensures.laid) in
    record {
      of =
          λ x a.
          lays_then ((lays_as c.requires.accepted c.pattern.ensures).of x.1 a.1)
          (lays_then ((lays_as c.requires.accepted c.maybe.ensures).of x.2 (rw c.second-p.ensures a.2))
          (lays_then (lays c.word.ensures.laid)
          (lays_then ((lays_as c.requires.accepted c.expr.ensures).of x.3 (rw c.third-q.ensures a.3))
          (comma_laid _ _ _ x.3 _ a.3 m))));
    })

pub bind-second-p-requires : goal.bind-second-p-requires
unfolding StmtAt
bind-second-p-requires t c = within (ident_whole c.requires.held.1.0)

pub bind-third-q-requires : goal.bind-third-q-requires
unfolding StmtAt
bind-third-q-requires t c =
    record {
      second_in_image = within (ident_whole c.requires.held.1.0);
      third_in_image = maybe_type _ _ _ c.requires.tree.2 c.requires.held.1.1;
    }

pub bind-word-requires : goal.bind-word-requires
unfolding StmtAt rules.stmt_form
bind-word-requires t c = room_first _ c.requires.room

pub bind-ident-requires : goal.bind-ident-requires
unfolding StmtAt rules.stmt_form
bind-ident-requires t c =
    record {
      accepted = c.requires.accepted;
      tree = c.requires.tree.1;
      held = c.requires.held.1.0;
      room = room_first _ (room_next c.requires.room (lays c.word.ensures.laid));
    }

pub bind-let_type-requires : goal.bind-let_type-requires
unfolding StmtAt rules.stmt_form
bind-let_type-requires t c =
    rw c.second-p.ensures (record {
      accepted = c.requires.accepted;
      tree = c.requires.tree.2;
      held = c.requires.held.1.1;
      room =
          room_first _ (room_next (room_next c.requires.room (lays c.word.ensures.laid))
          ((lays_as c.requires.accepted c.ident.ensures).of c.requires.tree.1 c.requires.held.1.0));
    })

pub bind-word-requires-2 : goal.bind-word-requires-2
unfolding StmtAt rules.stmt_form
bind-word-requires-2 t c =
    room_first _ (room_next (room_next (room_next c.requires.room (lays c.word.ensures.laid))
    ((lays_as c.requires.accepted c.ident.ensures).of c.requires.tree.1 c.requires.held.1.0))
    ((lays_as c.requires.accepted c.let_type.ensures).of c.requires.tree.2
    (rw c.second-p.ensures c.requires.held.1.1)))

pub bind-expr-requires : goal.bind-expr-requires
unfolding StmtAt rules.stmt_form
bind-expr-requires t c =
    rw c.third-q.ensures (
      omega (arith, c.decreases, c.requires.held.1.3.same),
      record {
        accepted = c.requires.accepted;
        tree = c.requires.tree.3;
        held = c.requires.held.1.2;
        room =
            room_first _ (room_next (room_next (room_next (room_next c.requires.room (lays c.word.ensures.laid))
            ((lays_as c.requires.accepted c.ident.ensures).of c.requires.tree.1 c.requires.held.1.0))
            ((lays_as c.requires.accepted c.let_type.ensures).of c.requires.tree.2
            (rw c.second-p.ensures c.requires.held.1.1)))
            (lays c.word-2.ensures.laid));
      },
    )

pub bind-word-requires-3 : goal.bind-word-requires-3
unfolding StmtAt rules.stmt_form
bind-word-requires-3 t c =
    room_next (room_next (room_next (room_next (room_next c.requires.room (lays c.word.ensures.laid))
    ((lays_as c.requires.accepted c.ident.ensures).of c.requires.tree.1 c.requires.held.1.0))
    ((lays_as c.requires.accepted c.let_type.ensures).of c.requires.tree.2
    (rw c.second-p.ensures c.requires.held.1.1)))
    (lays c.word-2.ensures.laid))
    ((lays_as c.requires.accepted c.expr.ensures).of c.requires.tree.3 (rw c.third-q.ensures c.requires.held.1.2))

pub bind-returns : goal.bind-returns
unfolding StmtAt rules.stmt_form
bind-returns t c =
    laid_as (cc)
    (record {
      of =
          λ x a.
          lays_then (lays c.word.ensures.laid)
          (lays_then ((lays_as c.requires.accepted c.ident.ensures).of x.1 a.1.0)
          (lays_then ((lays_as c.requires.accepted c.let_type.ensures).of x.2 (rw c.second-p.ensures a.1.1))
          (lays_then (lays c.word-2.ensures.laid) (lays_then
          ((lays_as c.requires.accepted c.expr.ensures).of x.3 (rw c.third-q.ensures a.1.2))
          (lays c.word-3.ensures.laid)))));
    })

pub binop-precedence-q-requires : goal.binop-precedence-q-requires
unfolding ExprAt
binop-precedence-q-requires t c =
    record {
      in_image = within (expr_whole _ _ _ c.requires.tree.1.0 c.requires.held.1.0);
      in_bounds = omega (arith, c.requires.held.1.1.ends.same, c.requires.held.1.1.head.fits);
      known = rw c.requires.held.1.1.which.byte c.requires.held.1.2;
    }

pub binop-leftmost-left-requires : goal.binop-leftmost-left-requires
unfolding ExprAt
binop-leftmost-left-requires t c = record {
  has_chain = record {
    source = c.args.parsed.now.source.now;
    tree = c.requires.tree;
    held = c.requires.held;
    same = (ap rules.binop_precedence (sym c.requires.held.1.1.which.byte) ∙ sym c.precedence-q.ensures);
  };
  ops_len = refl;
}

pub binop-open-group-requires : goal.binop-open-group-requires
unfolding ExprAt
binop-open-group-requires t c =
    let same : rules.binop_precedence c.requires.tree.1.2 ≡ (rank c.precedence-q.result) =
    ap rules.binop_precedence (sym c.requires.held.1.1.which.byte) ∙ sym c.precedence-q.ensures
    in
    let st = c.leftmost-left.ensures.of c.args.parsed.now.source.now c.requires.tree c.requires.held same in
    let room = chain_room st.above _ (rw (chain_form _ _ c.requires.tree _ _ _ st same) at c.requires.room) in
    opens_group _ room

pub binop-expr_with_precedence-requires : goal.binop-expr_with_precedence-requires
unfolding ExprAt
binop-expr_with_precedence-requires t c =
    let same : rules.binop_precedence c.requires.tree.1.2 ≡ (rank c.precedence-q.result) =
    ap rules.binop_precedence (sym c.requires.held.1.1.which.byte) ∙ sym c.precedence-q.ensures
    in
    let st = c.leftmost-left.ensures.of c.args.parsed.now.source.now c.requires.tree c.requires.held same in
    let room = chain_room st.above _ (rw (chain_form _ _ c.requires.tree _ _ _ st same) at c.requires.room) in (
      omega (arith, c.decreases, above_size st.above, c.leftmost-left.ensures.further),
      record {
        accepted = c.requires.accepted;
        tree = st.tree;
        held = st.held;
        room = room_first _ (room_group _ room c.open-group.ensures.opened);
      },
    )

pub binop-push-requires : goal.binop-push-requires
unfolding ExprAt
binop-push-requires t c =
    record {
      room = let same : rules.binop_precedence c.requires.tree.1.2 ≡ (rank c.precedence-q.result) =
          ap rules.binop_precedence (sym c.requires.held.1.1.which.byte) ∙ sym c.precedence-q.ensures
          in
          let st = c.leftmost-left.ensures.of c.args.parsed.now.source.now c.requires.tree c.requires.held same in
          let room = chain_room st.above _ (rw (chain_form _ _ c.requires.tree _ _ _ st same) at c.requires.room) in
          room_first _ (room_next (room_group _ room c.open-group.ensures.opened)
          ((lays_as c.requires.accepted c.expr_with_precedence.ensures).of st.tree st.held));
      small = tt;
    }

pub binop-open-indent-requires : goal.binop-open-indent-requires
unfolding ExprAt
binop-open-indent-requires t c =
    let same : rules.binop_precedence c.requires.tree.1.2 ≡ (rank c.precedence-q.result) =
    ap rules.binop_precedence (sym c.requires.held.1.1.which.byte) ∙ sym c.precedence-q.ensures
    in
    let st = c.leftmost-left.ensures.of c.args.parsed.now.source.now c.requires.tree c.requires.held same in
    let room = chain_room st.above _ (rw (chain_form _ _ c.requires.tree _ _ _ st same) at c.requires.room) in
    opens_indent _ (room_next (room_next (room_group _ room c.open-group.ensures.opened)
    ((lays_as c.requires.accepted c.expr_with_precedence.ensures).of st.tree st.held))
    (lays c.push.ensures.laid))

pub binop-tail-requires : goal.binop-tail-requires
unfolding ExprAt
binop-tail-requires t c =
    let same : rules.binop_precedence c.requires.tree.1.2 ≡ (rank c.precedence-q.result) =
    ap rules.binop_precedence (sym c.requires.held.1.1.which.byte) ∙ sym c.precedence-q.ensures
    in
    let st = c.leftmost-left.ensures.of c.args.parsed.now.source.now c.requires.tree c.requires.held same in
    let room = chain_room st.above _ (rw (chain_form _ _ c.requires.tree _ _ _ st same) at c.requires.room) in (
      omega (arith, c.decreases),
      record {
        accepted = c.requires.accepted;
        tree = syntax.expr c.requires.tree.0 (four bin_op c.requires.tree.1);
        held = c.requires.held;
        precedence = (rank c.precedence-q.result);
        low = st.tree;
        above = st.above;
        filled = c.leftmost-left.ensures.filled;
        head = expr_with (rank c.precedence-q.result) (given c.args.parsed.now.source.now c.args.parsed.now.image.now) st.tree;
        room =
            room_indent (room_next (room_next (room_group _ room c.open-group.ensures.opened)
            ((lays_as c.requires.accepted c.expr_with_precedence.ensures).of st.tree st.held))
            (lays c.push.ensures.laid))
            c.open-indent.ensures.opened;
      },
    )

pub binop-returns : goal.binop-returns
unfolding ExprAt
binop-returns t c =
    laid_as (cc)
    (record {
      of =
          λ x a.
          let same : rules.binop_precedence x.1.2 ≡ (rank c.precedence-q.result) =
          ap rules.binop_precedence (sym a.1.1.which.byte) ∙ sym c.precedence-q.ensures in
          let st = c.leftmost-left.ensures.of c.args.parsed.now.source.now x a same in
          rw (chain_form _ _ x _ _ _ st same)
          (chain_laid st.above _ c.open-group.ensures
          ((lays_as c.requires.accepted c.expr_with_precedence.ensures).of st.tree st.held)
          (lays c.push.ensures.laid) c.open-indent.ensures
          ((lays_tail c.requires.accepted c.leftmost-left.ensures.filled c.tail.ensures).of _
          (syntax.expr x.0 (four bin_op x.1)) a st.tree st.above _)
          c.close.ensures c.close-2.ensures);
    })

pub block-second-p-requires : goal.block-second-p-requires
block-second-p-requires t c =
    let w = block_parts _ _ _ c.requires.tree c.requires.held in
    within w.held.1

pub block-no_stmts-none-requires : goal.block-no_stmts-none-requires
block-no_stmts-none-requires t c =
    let w = block_parts _ _ _ c.requires.tree c.requires.held in
    w.held.1

pub block-is_empty-empty-requires : goal.block-is_empty-empty-requires
block-is_empty-empty-requires t c =
    let w = block_parts _ _ _ c.requires.tree c.requires.held in record { whole = w.held.1; in_image = maybe_expr_lem _ _ _ w.tree.2 w.held.3 }

pub block-open-group-requires : goal.block-open-group-requires
block-open-group-requires t c =
    let h = block_has c.is_empty-empty.ensures c.requires in
    opens_group _ h.room

pub block-block_start-requires : goal.block-block_start-requires
block-block_start-requires t c =
    let h = block_has c.is_empty-empty.ensures c.requires in
    room_first _ (room_group _ h.room c.open-group.ensures.opened)

pub block-open-indent-requires : goal.block-open-indent-requires
block-open-indent-requires t c =
    let h =
    body_has refl refl refl (let hb = block_has c.is_empty-empty.ensures c.requires in
    has_at hb (room_first _ (room_next (room_group _ hb.room c.open-group.ensures.opened) (lays c.block_start.ensures.laid))))
    in
    opens_indent _ h.room

pub block-overflow_add-at-2 : goal.block-overflow_add-at-2
block-overflow_add-at-2 t c =
    let w = block_parts _ _ _ c.requires.tree c.requires.held in
    omega (arith, c.requires.accepted.small, w.held.0.long, w.held.0.fits, w.held.1.long, w.held.1.fits)

pub block-stmts-requires : goal.block-stmts-requires
block-stmts-requires t c =
    let h =
    body_has refl refl refl (let hb = block_has c.is_empty-empty.ensures c.requires in
    has_at hb (room_first _ (room_next (room_group _ hb.room c.open-group.ensures.opened) (lays c.block_start.ensures.laid))))
    in
    rw c.second-p.ensures (
      omega (arith, c.decreases, h.held.4.same, h.held.1.long),
      record {
        accepted = c.requires.accepted;
        tree = h.tree.1;
        held = h.held.2;
        inside = h.held.1.fits;
        room = room_first _ (room_indent h.room c.open-indent.ensures.opened);
      },
    )

pub block-last-requires : goal.block-last-requires
block-last-requires t c =
    let h =
    body_has c.no_stmts-none.ensures refl refl (let hb = block_has c.is_empty-empty.ensures c.requires in
    has_at hb (room_first _ (room_next (room_group _ hb.room c.open-group.ensures.opened) (lays c.block_start.ensures.laid))))
    in
    rw c.second-p.ensures (
      omega (arith, c.decreases, h.held.4.same),
      record {
        accepted = c.requires.accepted;
        tree = h.tree.2;
        held = h.held.3;
        room =
            room_first _ (room_next (room_indent h.room c.open-indent.ensures.opened) ((rw c.second-p.ensures
            at (lays_all c.requires.accepted
            (rw c.second-p.ensures (block_parts _ _ _ c.requires.tree c.requires.held).held.1.fits) c.stmts.ensures)).of
            h.tree.1 h.held.2));
      },
    )

pub block-end-requires : goal.block-end-requires
block-end-requires t c =
    let w = block_parts _ _ _ c.requires.tree c.requires.held in
    w.held.0

pub block-gap-requires : goal.block-gap-requires
block-gap-requires t c =
    let h =
    body_has c.no_stmts-none.ensures c.is_empty-empty.ensures c.end.ensures (let hb =
    block_has c.is_empty-empty.ensures c.requires
    in
    has_at hb (room_first _ (room_next (room_group _ hb.room c.open-group.ensures.opened) (lays c.block_start.ensures.laid))))
    in (room_next (room_next (room_indent h.room c.open-indent.ensures.opened) ((rw c.second-p.ensures
    at (lays_all c.requires.accepted
    (rw c.second-p.ensures (block_parts _ _ _ c.requires.tree c.requires.held).held.1.fits) c.stmts.ensures)).of
    h.tree.1 h.held.2))
    ((rw c.second-p.ensures at (lays_as c.requires.accepted c.last.ensures)).of h.tree.2 h.held.3))

pub block-push-requires : goal.block-push-requires
block-push-requires t c =
    record {
      room = let h = block_has c.is_empty-empty.ensures c.requires in
          room_first _ (room_next (room_next (room_group _ h.room c.open-group.ensures.opened) (lays c.block_start.ensures.laid))
          ((body_laid c.no_stmts-none.ensures c.is_empty-empty.ensures c.end.ensures c.open-indent.ensures
          (rw c.second-p.ensures at (lays_all c.requires.accepted
          (rw c.second-p.ensures (block_parts _ _ _ c.requires.tree c.requires.held).held.1.fits) c.stmts.ensures))
          (rw c.second-p.ensures at (lays_as c.requires.accepted c.last.ensures)) (lays c.gap.ensures.laid)
          c.close.ensures).of
          h.tree h.held));
      small = tt;
    }

pub block-word-requires : goal.block-word-requires
block-word-requires t c =
    let h = block_has c.is_empty-empty.ensures c.requires in
    room_next (room_next (room_next (room_group _ h.room c.open-group.ensures.opened) (lays c.block_start.ensures.laid))
    ((body_laid c.no_stmts-none.ensures c.is_empty-empty.ensures c.end.ensures c.open-indent.ensures
    (rw c.second-p.ensures at (lays_all c.requires.accepted
    (rw c.second-p.ensures (block_parts _ _ _ c.requires.tree c.requires.held).held.1.fits) c.stmts.ensures))
    (rw c.second-p.ensures at (lays_as c.requires.accepted c.last.ensures)) (lays c.gap.ensures.laid)
    c.close.ensures).of
    h.tree h.held))
    (lays c.push.ensures.laid)

pub block-returns : goal.block-returns
block-returns t c =
    laid_as (cc) (block_laid c.is_empty-empty.ensures c.open-group.ensures (lays c.block_start.ensures.laid)
    (body_laid c.no_stmts-none.ensures c.is_empty-empty.ensures c.end.ensures c.open-indent.ensures
    (rw c.second-p.ensures at (lays_all c.requires.accepted
    (rw c.second-p.ensures (block_parts _ _ _ c.requires.tree c.requires.held).held.1.fits) c.stmts.ensures))
    (rw c.second-p.ensures at (lays_as c.requires.accepted c.last.ensures)) (lays c.gap.ensures.laid) c.close.ensures)
    (lays c.push.ensures.laid) (lays c.word.ensures.laid) c.close-2.ensures)

pub call-second-p-requires : goal.call-second-p-requires
unfolding ExprAt
call-second-p-requires t c = within (expr_whole _ _ _ c.requires.tree.1.0 c.requires.held.1.0)

pub call-open-call-requires : goal.call-open-call-requires
unfolding ExprAt rules.expr_with_precedence
call-open-call-requires t c =
    opens_called _ _ (room_if _ (sym (below_rank c.args.outer Chain) ∙ sym c.lt.ensures ∙ c.if-lt.true) c.requires.room)

pub call-expr_with_precedence-requires : goal.call-expr_with_precedence-requires
unfolding ExprAt rules.expr_with_precedence
call-expr_with_precedence-requires t c = (
  omega (arith, c.decreases, c.requires.held.1.3.same),
  record {
    accepted = c.requires.accepted;
    tree = c.requires.tree.1.0;
    held = c.requires.held.1.0;
    room = room_called _ (room_if _ (sym (below_rank c.args.outer Chain) ∙ sym c.lt.ensures ∙ c.if-lt.true) c.requires.room) c.open-call.ensures.opened;
  },
)

pub call-function_args-requires : goal.call-function_args-requires
unfolding ExprAt rules.expr_with_precedence
call-function_args-requires t c =
    rw c.second-p.ensures (
      omega (arith, c.decreases, c.requires.held.1.3.same),
      record {
        accepted = c.requires.accepted;
        tree = (c.requires.tree.1.1, c.requires.tree.1.2);
        held = (c.requires.held.1.1, c.requires.held.1.2);
        room =
            room_called_next (room_if _ (sym (below_rank c.args.outer Chain) ∙ sym c.lt.ensures ∙ c.if-lt.true) c.requires.room)
            c.open-call.ensures.opened ((lays_as c.requires.accepted
            c.expr_with_precedence.ensures).of c.requires.tree.1.0 c.requires.held.1.0);
      },
    )

pub call-returns-then-lt : goal.call-returns-then-lt
unfolding ExprAt rules.expr_with_precedence
call-returns-then-lt t c =
    laid_as (cc)
    (let l = rw c.second-p.ensures at (lays_as c.requires.accepted c.function_args.ensures) in
    record {
      of =
          λ x a.
          lays_if _ (sym (below_rank c.args.outer Chain) ∙ sym c.lt.ensures ∙ c.if-lt.true)
          (closes_call c.open-call.ensures
          ((lays_as c.requires.accepted c.expr_with_precedence.ensures).of x.1.0 a.1.0) refl
          (l.of (x.1.1, x.1.2) (a.1.1, a.1.2)) c.set_second.ensures c.close.ensures);
    })

pub call-expr_with_precedence-requires-2 : goal.call-expr_with_precedence-requires-2
unfolding ExprAt rules.expr_with_precedence
call-expr_with_precedence-requires-2 t c = (
  omega (arith, c.decreases, c.requires.held.1.3.same),
  record {
    accepted = c.requires.accepted;
    tree = c.requires.tree.1.0;
    held = c.requires.held.1.0;
    room = room_first _ (room_else _ (sym (below_rank c.args.outer Chain) ∙ sym c.lt.ensures ∙ c.if-lt.false) c.requires.room);
  },
)

pub call-function_args-requires-2 : goal.call-function_args-requires-2
unfolding ExprAt rules.expr_with_precedence
call-function_args-requires-2 t c =
    rw c.second-p.ensures (
      omega (arith, c.decreases, c.requires.held.1.3.same),
      record {
        accepted = c.requires.accepted;
        tree = (c.requires.tree.1.1, c.requires.tree.1.2);
        held = (c.requires.held.1.1, c.requires.held.1.2);
        room =
            room_next (room_else _ (sym (below_rank c.args.outer Chain) ∙ sym c.lt.ensures ∙ c.if-lt.false) c.requires.room) ((lays_as c.requires.accepted
            c.expr_with_precedence-2.ensures).of c.requires.tree.1.0 c.requires.held.1.0);
      },
    )

pub call-returns : goal.call-returns
unfolding ExprAt rules.expr_with_precedence
call-returns t c =
    laid_as (cc)
    (let l = rw c.second-p.ensures at (lays_as c.requires.accepted c.function_args-2.ensures) in
    record {
      of =
          λ x a. lays_else _ (sym (below_rank c.args.outer Chain) ∙ sym c.lt.ensures ∙ c.if-lt.false) (lays_then
          ((lays_as c.requires.accepted c.expr_with_precedence-2.ensures).of x.1.0 a.1.0)
          (l.of (x.1.1, x.1.2) (a.1.1, a.1.2)));
    })

pub cond-word-requires : goal.cond-word-requires
unfolding rules.clause
cond-word-requires t c = room_first _ c.requires.room

pub cond-open-group-requires : goal.cond-open-group-requires
unfolding rules.clause
cond-open-group-requires t c =
    opens_group _ (room_first _ (room_next c.requires.room (lays c.word.ensures.laid)))

pub cond-open-indent-requires : goal.cond-open-indent-requires
unfolding rules.clause
cond-open-indent-requires t c =
    opens_indent _ (room_group _ (room_first _ (room_next c.requires.room (lays c.word.ensures.laid))) c.open-group.ensures.opened)

pub cond-expr-requires : goal.cond-expr-requires
unfolding rules.clause
cond-expr-requires t c = (
  omega (arith, c.decreases),
  record {
    accepted = c.requires.accepted;
    tree = c.requires.tree.0;
    held = c.requires.held.0;
    room =
        room_indent (room_group _ (room_first _ (room_next c.requires.room (lays c.word.ensures.laid))) c.open-group.ensures.opened)
        c.open-indent.ensures.opened;
  },
)

pub cond-word-requires-2 : goal.cond-word-requires-2
unfolding rules.clause
cond-word-requires-2 t c =
    room_first _ (room_next (room_next c.requires.room (lays c.word.ensures.laid)) (closes_group _ c.open-group.ensures
    (closes_indent c.open-indent.ensures
    ((lays_as c.requires.accepted c.expr.ensures).of c.requires.tree.0 c.requires.held.0) c.close.ensures)
    c.close-2.ensures))

pub cond-past-requires : goal.cond-past-requires
cond-past-requires t c =
    within (expr_whole _ _ _ c.requires.tree.0 c.requires.held.0)

pub cond-block-requires : goal.cond-block-requires
unfolding rules.clause
cond-block-requires t c =
    rw c.past.ensures (
      omega (arith, c.decreases),
      record {
        accepted = c.requires.accepted;
        tree = c.requires.tree.1;
        held = c.requires.held.1;
        room =
            room_next (room_next (room_next c.requires.room (lays c.word.ensures.laid)) (closes_group _ c.open-group.ensures
            (closes_indent c.open-indent.ensures
            ((lays_as c.requires.accepted c.expr.ensures).of c.requires.tree.0 c.requires.held.0) c.close.ensures)
            c.close-2.ensures))
            (lays c.word-2.ensures.laid);
      },
    )

pub cond-returns : goal.cond-returns
unfolding rules.clause
cond-returns t c =
    laid_as (cc)
    (record {
      of =
          λ x a.
          lays_then (lays c.word.ensures.laid)
          (lays_then
          (closes_group _ c.open-group.ensures (closes_indent c.open-indent.ensures
          ((lays_as c.requires.accepted c.expr.ensures).of x.0 a.0) c.close.ensures)
          c.close-2.ensures)
          (lays_then (lays c.word-2.ensures.laid)
          ((lays_as c.requires.accepted c.block.ensures).of x.1 (rw c.past.ensures a.1))));
    })

pub each-second-p-requires : goal.each-second-p-requires
unfolding ExprAt
each-second-p-requires t c = within (ident_whole c.requires.held.1.0)

pub each-word-requires : goal.each-word-requires
unfolding ExprAt rules.expr_with_precedence
each-word-requires t c = room_first _ c.requires.room

pub each-ident-requires : goal.each-ident-requires
unfolding ExprAt rules.expr_with_precedence
each-ident-requires t c =
    record {
      accepted = c.requires.accepted;
      tree = c.requires.tree.1.0;
      held = c.requires.held.1.0;
      room = room_first _ (room_next c.requires.room (lays c.word.ensures.laid));
    }

pub each-cond-requires : goal.each-cond-requires
unfolding ExprAt rules.expr_with_precedence
each-cond-requires t c =
    rw c.second-p.ensures (
      omega (arith, c.decreases, c.requires.held.1.3.same),
      record {
        accepted = c.requires.accepted;
        tree = (c.requires.tree.1.1, c.requires.tree.1.2);
        held = (c.requires.held.1.1, c.requires.held.1.2);
        room =
            room_next (room_next c.requires.room (lays c.word.ensures.laid))
            ((lays_as c.requires.accepted c.ident.ensures).of c.requires.tree.1.0 c.requires.held.1.0);
      },
    )

pub each-returns : goal.each-returns
unfolding ExprAt rules.expr_with_precedence
each-returns t c =
    laid_as (cc)
    (record {
      of =
          λ x a.
          lays_then (lays c.word.ensures.laid)
          (lays_then ((lays_as c.requires.accepted c.ident.ensures).of x.1.0 a.1.0)
          ((lays_as c.requires.accepted c.cond.ensures).of (x.1.1, x.1.2) (rw c.second-p.ensures (a.1.1, a.1.2))));
    })

pub entry-ident-requires : goal.entry-ident-requires
entry-ident-requires t c =
    record { accepted = c.requires.accepted; tree = c.requires.tree.1; held = c.requires.held.1; room = room_first _ c.requires.room }

pub entry-word-requires : goal.entry-word-requires
entry-word-requires t c =
    room_first _
    (room_next c.requires.room ((lays_as c.requires.accepted c.ident.ensures).of c.requires.tree.1 c.requires.held.1))

pub entry-expr-requires : goal.entry-expr-requires
entry-expr-requires t c =
    rw c.second-p.ensures (
      omega (arith, c.decreases, c.requires.held.3.same),
      record {
        accepted = c.requires.accepted;
        tree = c.requires.tree.2;
        held = c.requires.held.2;
        room =
            room_next (room_next c.requires.room
            ((lays_as c.requires.accepted c.ident.ensures).of c.requires.tree.1 c.requires.held.1))
            (lays c.word.ensures.laid);
      },
    )

pub entry-returns : goal.entry-returns
entry-returns t c =
    laid_as (cc)
    (record {
      of =
          λ x a. lays_then ((lays_as c.requires.accepted c.ident.ensures).of x.1 a.1) (lays_then (lays c.word.ensures.laid)
          ((lays_as c.requires.accepted c.expr.ensures).of x.2 (rw c.second-p.ensures a.2)));
    })

pub expr-expr_with_precedence-requires : goal.expr-expr_with_precedence-requires
expr-expr_with_precedence-requires t c = (omega (arith, c.decreases), c.requires)

pub expr-returns : goal.expr-returns
expr-returns t c = c.expr_with_precedence.ensures

pub expr_with_precedence-form-requires : goal.expr_with_precedence-form-requires
expr_with_precedence-form-requires t c =
    let h = whole_has (rank c.args.outer) c.requires in
    (omega (arith, c.decreases), has_at h (room_first _ h.room))

pub expr_with_precedence-pop_trailing_comment-requires : goal.expr_with_precedence-pop_trailing_comment-requires
expr_with_precedence-pop_trailing_comment-requires t c =
    let h = whole_has (rank c.args.outer) c.requires in (room_next h.room ((lays_as c.requires.accepted c.form.ensures).of h.tree h.held))

pub expr_with_precedence-returns : goal.expr_with_precedence-returns
expr_with_precedence-returns t c =
    laid_as (cc)
    (whole_laid (rank c.args.outer) (lays_as c.requires.accepted c.form.ensures) (lays c.pop_trailing_comment.ensures.laid))

pub form-read-requires : goal.form-read-requires
form-read-requires t c = expr_has_kind _ _ _ c.requires.tree c.requires.held

pub form-ret-requires : goal.form-ret-requires
unfolding rules.expr_with_precedence
form-ret-requires t c =
    let h = expr_has _ (expr_is _ _ _ 50 (c.read.ensures ∙ ap expr_number c.in-Return.is)) (rank c.args.outer) c.requires in
    (omega (arith, c.decreases), has_at h h.room)

pub form-literal-requires : goal.form-literal-requires
unfolding ExprAt rules.expr_with_precedence
form-literal-requires t c =
    let h = expr_has _ (expr_is _ _ _ 51 (c.read.ensures ∙ ap expr_number c.in-Literal.is)) (rank c.args.outer) c.requires in
    record { accepted = c.requires.accepted; tree = h.tree.1; held = (h.held.1.0, h.held.1.1); room = h.room }

pub form-block-requires : goal.form-block-requires
unfolding ExprAt rules.expr_with_precedence
form-block-requires t c =
    let h = expr_has _ (expr_is _ _ _ 52 (c.read.ensures ∙ ap expr_number c.in-Block.is)) (rank c.args.outer) c.requires in
    (omega (arith, c.decreases, h.held.1.1.same), record { accepted = c.requires.accepted; tree = h.tree.1; held = h.held.1.0; room = h.room })

pub form-match_expr-requires : goal.form-match_expr-requires
unfolding rules.expr_with_precedence
form-match_expr-requires t c =
    let h = expr_has _ (expr_is _ _ _ 53 (c.read.ensures ∙ ap expr_number c.in-Match.is)) (rank c.args.outer) c.requires in
    (omega (arith, c.decreases), has_at h h.room)

pub form-call-requires : goal.form-call-requires
form-call-requires t c =
    let h = expr_has _ (expr_is _ _ _ 54 (c.read.ensures ∙ ap expr_number c.in-FunctionCall.is)) (rank c.args.outer) c.requires in
    (omega (arith, c.decreases), h)

pub form-access-requires : goal.form-access-requires
form-access-requires t c =
    let h = expr_has _ (expr_is _ _ _ 55 (c.read.ensures ∙ ap expr_number c.in-Access.is)) (rank c.args.outer) c.requires in
    (omega (arith, c.decreases), h)

pub form-path-requires : goal.form-path-requires
unfolding ExprAt rules.expr_with_precedence
form-path-requires t c =
    let h = expr_has _ (expr_is _ _ _ 56 (c.read.ensures ∙ ap expr_number c.in-Path.is)) (rank c.args.outer) c.requires in
    let e : ltb (rank c.args.outer) 8 ≡ c.lt.result = sym (below_rank c.args.outer Chain) ∙ sym c.lt.ensures in
    record { accepted = c.requires.accepted; tree = h.tree.1; held = h.held.1.0; room = rw e at h.room }

pub form-record-requires : goal.form-record-requires
unfolding ExprAt rules.expr_with_precedence
form-record-requires t c =
    let h = expr_has _ (expr_is _ _ _ 57 (c.read.ensures ∙ ap expr_number c.in-Record.is)) (rank c.args.outer) c.requires in (
      omega (arith, c.decreases, h.held.1.2.same),
      record { accepted = c.requires.accepted; tree = (h.tree.1.0, h.tree.1.1); held = (h.held.1.0, h.held.1.1); room = h.room },
    )

pub form-path-requires-in-TypedRecord : goal.form-path-requires-in-TypedRecord
unfolding ExprAt rules.expr_with_precedence
form-path-requires-in-TypedRecord t c =
    let h = expr_has _ (expr_is _ _ _ 58 (c.read.ensures ∙ ap expr_number c.in-TypedRecord.is)) (rank c.args.outer) c.requires in
    record { accepted = c.requires.accepted; tree = h.tree.1.0; held = h.held.1.0; room = room_first _ h.room }

pub form-word-requires : goal.form-word-requires
unfolding ExprAt rules.expr_with_precedence
form-word-requires t c =
    let h = expr_has _ (expr_is _ _ _ 58 (c.read.ensures ∙ ap expr_number c.in-TypedRecord.is)) (rank c.args.outer) c.requires in
    room_first _ (room_next h.room ((lays_as c.requires.accepted c.path-in-TypedRecord.ensures).of h.tree.1.0 h.held.1.0))

pub form-second-requires : goal.form-second-requires
unfolding ExprAt
form-second-requires t c =
    let h = expr_has _ (expr_is _ _ _ 58 (c.read.ensures ∙ ap expr_number c.in-TypedRecord.is)) (rank c.args.outer) c.requires in
    within (path_whole h.held.1.0)

pub form-record-requires-in-TypedRecord : goal.form-record-requires-in-TypedRecord
unfolding ExprAt rules.expr_with_precedence
form-record-requires-in-TypedRecord t c =
    let h = expr_has _ (expr_is _ _ _ 58 (c.read.ensures ∙ ap expr_number c.in-TypedRecord.is)) (rank c.args.outer) c.requires in
    rw c.second.ensures (
      omega (arith, c.decreases, h.held.1.3.same),
      record {
        accepted = c.requires.accepted;
        tree = (h.tree.1.1, h.tree.1.2);
        held = (h.held.1.1, h.held.1.2);
        room =
            room_next (room_next h.room ((lays_as c.requires.accepted c.path-in-TypedRecord.ensures).of h.tree.1.0 h.held.1.0))
            (lays c.word.ensures.laid);
      },
    )

pub form-list-requires : goal.form-list-requires
unfolding rules.expr_with_precedence
form-list-requires t c =
    let h = expr_has _ (expr_is _ _ _ 59 (c.read.ensures ∙ ap expr_number c.in-List.is)) (rank c.args.outer) c.requires in
    (omega (arith, c.decreases), has_at h h.room)

pub form-after-requires : goal.form-after-requires
unfolding ExprAt rules.expr_with_precedence
form-after-requires t c =
    let h = expr_has _ (expr_is _ _ _ 60 (c.read.ensures ∙ ap expr_number c.in-Not.is)) (rank c.args.outer) c.requires in
    (omega (arith, c.decreases, h.held.1.1.same), record { accepted = c.requires.accepted; tree = h.tree.1; held = h.held.1.0; room = h.room })

pub form-path-requires-in-Assign : goal.form-path-requires-in-Assign
unfolding ExprAt rules.expr_with_precedence
form-path-requires-in-Assign t c =
    let h = expr_has _ (expr_is _ _ _ 61 (c.read.ensures ∙ ap expr_number c.in-Assign.is)) (rank c.args.outer) c.requires in
    record { accepted = c.requires.accepted; tree = h.tree.1.0; held = h.held.1.0; room = room_first _ h.room }

pub form-second-requires-in-Assign : goal.form-second-requires-in-Assign
unfolding ExprAt
form-second-requires-in-Assign t c =
    let h = expr_has _ (expr_is _ _ _ 61 (c.read.ensures ∙ ap expr_number c.in-Assign.is)) (rank c.args.outer) c.requires in
    within (path_whole h.held.1.0)

pub form-after-requires-in-Assign : goal.form-after-requires-in-Assign
unfolding ExprAt rules.expr_with_precedence
form-after-requires-in-Assign t c =
    let h = expr_has _ (expr_is _ _ _ 61 (c.read.ensures ∙ ap expr_number c.in-Assign.is)) (rank c.args.outer) c.requires in
    rw c.second-in-Assign.ensures (
      omega (arith, c.decreases, h.held.1.2.same),
      record {
        accepted = c.requires.accepted;
        tree = h.tree.1.1;
        held = h.held.1.1;
        room = room_next h.room ((lays_as c.requires.accepted c.path-in-Assign.ensures).of h.tree.1.0 h.held.1.0);
      },
    )

pub form-path-requires-in-CompoundAssign : goal.form-path-requires-in-CompoundAssign
unfolding ExprAt rules.expr_with_precedence
form-path-requires-in-CompoundAssign t c =
    let h = expr_has _ (expr_is _ _ _ 62 (c.read.ensures ∙ ap expr_number c.in-CompoundAssign.is)) (rank c.args.outer) c.requires in
    record { accepted = c.requires.accepted; tree = h.tree.1.0; held = h.held.1.0; room = room_first _ h.room }

pub form-third-requires : goal.form-third-requires
unfolding ExprAt
form-third-requires t c =
    let h = expr_has _ (expr_is _ _ _ 62 (c.read.ensures ∙ ap expr_number c.in-CompoundAssign.is)) (rank c.args.outer) c.requires in
    record { second_in_image = within (path_whole h.held.1.0); third_in_image = within (head_whole h.held.1.1.op.head) }

pub form-assign_word-requires : goal.form-assign_word-requires
unfolding ExprAt
form-assign_word-requires t c =
    let h = expr_has _ (expr_is _ _ _ 62 (c.read.ensures ∙ ap expr_number c.in-CompoundAssign.is)) (rank c.args.outer) c.requires in
    record {
      in_image = within (path_whole h.held.1.0);
      in_bounds = omega (arith, h.held.1.1.op.ends.same, h.held.1.1.op.head.fits);
      known = rw h.held.1.1.op.which.byte h.held.1.2;
    }

pub form-after-requires-in-CompoundAssign : goal.form-after-requires-in-CompoundAssign
unfolding ExprAt rules.expr_with_precedence
form-after-requires-in-CompoundAssign t c =
    let h = expr_has _ (expr_is _ _ _ 62 (c.read.ensures ∙ ap expr_number c.in-CompoundAssign.is)) (rank c.args.outer) c.requires in
    let e : spelling c.assign_word.result ≡ rules.assign_symbol h.tree.1.1 =
    c.assign_word.ensures ∙ ap rules.assign_symbol h.held.1.1.op.which.byte in
    rw c.third.ensures (
      omega (arith, c.decreases, h.held.1.4.same),
      record {
        accepted = c.requires.accepted;
        tree = h.tree.1.2;
        held = h.held.1.3;
        room = room_next (rw (← e) at h.room) ((lays_as c.requires.accepted c.path-in-CompoundAssign.ensures).of h.tree.1.0 h.held.1.0);
      },
    )

pub form-binop-requires : goal.form-binop-requires
unfolding rules.expr_with_precedence
form-binop-requires t c =
    let h = expr_has _ (expr_is _ _ _ 63 (c.read.ensures ∙ ap expr_number c.in-BinOp.is)) (rank c.args.outer) c.requires in
    (omega (arith, c.decreases), has_at h h.room)

pub form-after-requires-in-Negate : goal.form-after-requires-in-Negate
unfolding ExprAt rules.expr_with_precedence
form-after-requires-in-Negate t c =
    let h = expr_has _ (expr_is _ _ _ 64 (c.read.ensures ∙ ap expr_number c.in-Negate.is)) (rank c.args.outer) c.requires in
    (omega (arith, c.decreases, h.held.1.1.same), record { accepted = c.requires.accepted; tree = h.tree.1; held = h.held.1.0; room = h.room })

pub form-if_else-requires : goal.form-if_else-requires
unfolding rules.expr_with_precedence
form-if_else-requires t c =
    let h = expr_has _ (expr_is _ _ _ 65 (c.read.ensures ∙ ap expr_number c.in-IfElse.is)) (rank c.args.outer) c.requires in
    (omega (arith, c.decreases), has_at h h.room)

pub form-cond-requires : goal.form-cond-requires
unfolding ExprAt rules.expr_with_precedence
form-cond-requires t c =
    let h = expr_has _ (expr_is _ _ _ 66 (c.read.ensures ∙ ap expr_number c.in-While.is)) (rank c.args.outer) c.requires in (
      omega (arith, c.decreases, h.held.1.2.same),
      record { accepted = c.requires.accepted; tree = (h.tree.1.0, h.tree.1.1); held = (h.held.1.0, h.held.1.1); room = h.room },
    )

pub form-each-requires : goal.form-each-requires
unfolding rules.expr_with_precedence
form-each-requires t c =
    let h = expr_has _ (expr_is _ _ _ 67 (c.read.ensures ∙ ap expr_number c.in-For.is)) (rank c.args.outer) c.requires in
    (omega (arith, c.decreases), has_at h h.room)

pub form-expr_with_precedence-requires : goal.form-expr_with_precedence-requires
unfolding ExprAt rules.expr_with_precedence
form-expr_with_precedence-requires t c =
    let h = expr_has _ (expr_is _ _ _ 68 (c.read.ensures ∙ ap expr_number c.in-QuestionMark.is)) (rank c.args.outer) c.requires in (
      omega (arith, c.decreases, h.held.1.1.same),
      record { accepted = c.requires.accepted; tree = h.tree.1; held = h.held.1.0; room = room_first _ h.room },
    )

pub form-word-requires-in-QuestionMark : goal.form-word-requires-in-QuestionMark
unfolding ExprAt rules.expr_with_precedence
form-word-requires-in-QuestionMark t c =
    let h = expr_has _ (expr_is _ _ _ 68 (c.read.ensures ∙ ap expr_number c.in-QuestionMark.is)) (rank c.args.outer) c.requires in
    room_next h.room ((lays_as c.requires.accepted c.expr_with_precedence.ensures).of h.tree.1 h.held.1.0)

pub form-fstr-requires : goal.form-fstr-requires
unfolding rules.expr_with_precedence
form-fstr-requires t c =
    let h = expr_has _ (expr_is _ _ _ 69 (c.read.ensures ∙ ap expr_number c.in-FString.is)) (rank c.args.outer) c.requires in
    (omega (arith, c.decreases), has_at h h.room)

pub form-par-requires : goal.form-par-requires
unfolding rules.expr_with_precedence
form-par-requires t c =
    let h = expr_has _ (expr_is _ _ _ 70 (c.read.ensures ∙ ap expr_number c.in-Parentheses.is)) (rank c.args.outer) c.requires in
    (omega (arith, c.decreases), has_at h h.room)

pub form-returns-in-Return : goal.form-returns-in-Return
unfolding ExprAt rules.expr_with_precedence
form-returns-in-Return t c =
    laid_as (cc) (expr_laid _ (expr_is _ _ _ 50 (c.read.ensures ∙ ap expr_number c.in-Return.is)) (rank c.args.outer)
    (record { of = λ x a. (lays_as c.requires.accepted c.ret.ensures).of x a }))

pub form-returns-in-Literal : goal.form-returns-in-Literal
unfolding ExprAt rules.expr_with_precedence
form-returns-in-Literal t c =
    laid_as (cc) (expr_laid _ (expr_is _ _ _ 51 (c.read.ensures ∙ ap expr_number c.in-Literal.is)) (rank c.args.outer)
    (record { of = λ x a. (lays_as c.requires.accepted c.literal.ensures).of x.1 (a.1.0, a.1.1) }))

pub form-returns-in-Block : goal.form-returns-in-Block
unfolding ExprAt rules.expr_with_precedence
form-returns-in-Block t c =
    laid_as (cc) (expr_laid _ (expr_is _ _ _ 52 (c.read.ensures ∙ ap expr_number c.in-Block.is)) (rank c.args.outer)
    (record { of = λ x a. (lays_as c.requires.accepted c.block.ensures).of x.1 a.1.0 }))

pub form-returns-in-Match : goal.form-returns-in-Match
unfolding ExprAt rules.expr_with_precedence
form-returns-in-Match t c =
    laid_as (cc) (expr_laid _ (expr_is _ _ _ 53 (c.read.ensures ∙ ap expr_number c.in-Match.is)) (rank c.args.outer)
    (record { of = λ x a. (lays_as c.requires.accepted c.match_expr.ensures).of x a }))

pub form-returns-in-FunctionCall : goal.form-returns-in-FunctionCall
form-returns-in-FunctionCall t c =
    laid_as (cc) (expr_laid _ (expr_is _ _ _ 54 (c.read.ensures ∙ ap expr_number c.in-FunctionCall.is))
    (rank c.args.outer) (lays_as c.requires.accepted c.call.ensures))

pub form-returns-in-Access : goal.form-returns-in-Access
form-returns-in-Access t c =
    laid_as (cc) (expr_laid _ (expr_is _ _ _ 55 (c.read.ensures ∙ ap expr_number c.in-Access.is))
    (rank c.args.outer) (lays_as c.requires.accepted c.access.ensures))

pub form-returns-in-Path : goal.form-returns-in-Path
unfolding ExprAt rules.expr_with_precedence
form-returns-in-Path t c =
    laid_as (cc) (expr_laid _ (expr_is _ _ _ 56 (c.read.ensures ∙ ap expr_number c.in-Path.is)) (rank c.args.outer)
    (record {
      of =
          λ x a.
          let e : ltb (rank c.args.outer) 8 ≡ c.lt.result = sym (below_rank c.args.outer Chain) ∙ sym c.lt.ensures in
          rw e ((lays_as c.requires.accepted c.path.ensures).of x.1 a.1.0);
    }))

pub form-returns-in-Record : goal.form-returns-in-Record
unfolding ExprAt rules.expr_with_precedence
form-returns-in-Record t c =
    laid_as (cc) (expr_laid _ (expr_is _ _ _ 57 (c.read.ensures ∙ ap expr_number c.in-Record.is)) (rank c.args.outer)
    (record { of = λ x a. (lays_as c.requires.accepted c.«record».ensures).of (x.1.0, x.1.1) (a.1.0, a.1.1) }))

pub form-returns-in-TypedRecord : goal.form-returns-in-TypedRecord
unfolding ExprAt rules.expr_with_precedence
form-returns-in-TypedRecord t c =
    laid_as (cc) (expr_laid _ (expr_is _ _ _ 58 (c.read.ensures ∙ ap expr_number c.in-TypedRecord.is)) (rank c.args.outer) (record {
      of =
          λ x a. lays_then ((lays_as c.requires.accepted c.path-in-TypedRecord.ensures).of x.1.0 a.1.0) (lays_then (lays c.word.ensures.laid)
          ((lays_as c.requires.accepted c.record-in-TypedRecord.ensures).of (x.1.1, x.1.2)
          (rw c.second.ensures (a.1.1, a.1.2))));
    }))

pub form-returns-in-List : goal.form-returns-in-List
unfolding rules.expr_with_precedence
form-returns-in-List t c =
    laid_as (cc) (expr_laid _ (expr_is _ _ _ 59 (c.read.ensures ∙ ap expr_number c.in-List.is)) (rank c.args.outer)
    (record { of = λ x a. (lays_as c.requires.accepted c.list.ensures).of x a }))

pub form-returns-in-Not : goal.form-returns-in-Not
unfolding ExprAt rules.expr_with_precedence
form-returns-in-Not t c =
    laid_as (cc) (expr_laid _ (expr_is _ _ _ 60 (c.read.ensures ∙ ap expr_number c.in-Not.is)) (rank c.args.outer)
    (record { of = λ x a. (lays_as c.requires.accepted c.after.ensures).of x.1 a.1.0 }))

pub form-returns-in-Assign : goal.form-returns-in-Assign
unfolding ExprAt rules.expr_with_precedence
form-returns-in-Assign t c =
    laid_as (cc)
    (expr_laid _ (expr_is _ _ _ 61 (c.read.ensures ∙ ap expr_number c.in-Assign.is)) (rank c.args.outer)
    (record {
      of =
          λ x a. lays_then ((lays_as c.requires.accepted c.path-in-Assign.ensures).of x.1.0 a.1.0)
          ((lays_as c.requires.accepted c.after-in-Assign.ensures).of x.1.1 (rw c.second-in-Assign.ensures a.1.1));
    }))

pub form-returns-in-CompoundAssign : goal.form-returns-in-CompoundAssign
unfolding ExprAt rules.expr_with_precedence
form-returns-in-CompoundAssign t c =
    laid_as (cc)
    (expr_laid _ (expr_is _ _ _ 62 (c.read.ensures ∙ ap expr_number c.in-CompoundAssign.is)) (rank c.args.outer)
    (record {
      of =
          λ x a.
          let e : spelling c.assign_word.result ≡ rules.assign_symbol x.1.1 =
          c.assign_word.ensures ∙ ap rules.assign_symbol a.1.1.op.which.byte in
          rw (← e) (lays_then ((lays_as c.requires.accepted c.path-in-CompoundAssign.ensures).of x.1.0 a.1.0)
          ((lays_as c.requires.accepted c.after-in-CompoundAssign.ensures).of x.1.2 (rw c.third.ensures a.1.3)));
    }))

pub form-returns-in-BinOp : goal.form-returns-in-BinOp
unfolding ExprAt rules.expr_with_precedence
form-returns-in-BinOp t c =
    laid_as (cc) (expr_laid _ (expr_is _ _ _ 63 (c.read.ensures ∙ ap expr_number c.in-BinOp.is)) (rank c.args.outer)
    (record { of = λ x a. (lays_as c.requires.accepted c.binop.ensures).of x a }))

pub form-returns-in-Negate : goal.form-returns-in-Negate
unfolding ExprAt rules.expr_with_precedence
form-returns-in-Negate t c =
    laid_as (cc) (expr_laid _ (expr_is _ _ _ 64 (c.read.ensures ∙ ap expr_number c.in-Negate.is)) (rank c.args.outer)
    (record { of = λ x a. (lays_as c.requires.accepted c.after-in-Negate.ensures).of x.1 a.1.0 }))

pub form-returns-in-IfElse : goal.form-returns-in-IfElse
unfolding ExprAt rules.expr_with_precedence
form-returns-in-IfElse t c =
    laid_as (cc) (expr_laid _ (expr_is _ _ _ 65 (c.read.ensures ∙ ap expr_number c.in-IfElse.is)) (rank c.args.outer)
    (record { of = λ x a. (lays_as c.requires.accepted c.if_else.ensures).of x a }))

pub form-returns-in-While : goal.form-returns-in-While
unfolding ExprAt rules.expr_with_precedence
form-returns-in-While t c =
    laid_as (cc) (expr_laid _ (expr_is _ _ _ 66 (c.read.ensures ∙ ap expr_number c.in-While.is)) (rank c.args.outer)
    (record { of = λ x a. (lays_as c.requires.accepted c.cond.ensures).of (x.1.0, x.1.1) (a.1.0, a.1.1) }))

pub form-returns-in-For : goal.form-returns-in-For
unfolding ExprAt rules.expr_with_precedence
form-returns-in-For t c =
    laid_as (cc) (expr_laid _ (expr_is _ _ _ 67 (c.read.ensures ∙ ap expr_number c.in-For.is)) (rank c.args.outer)
    (record { of = λ x a. (lays_as c.requires.accepted c.each.ensures).of x a }))

pub form-returns-in-QuestionMark : goal.form-returns-in-QuestionMark
unfolding ExprAt rules.expr_with_precedence
form-returns-in-QuestionMark t c =
    laid_as (cc) (expr_laid _ (expr_is _ _ _ 68 (c.read.ensures ∙ ap expr_number c.in-QuestionMark.is)) (rank c.args.outer)
    (record {
      of =
          λ x a. lays_then ((lays_as c.requires.accepted c.expr_with_precedence.ensures).of x.1 a.1.0)
          (lays c.word-in-QuestionMark.ensures.laid);
    }))

pub form-returns-in-FString : goal.form-returns-in-FString
unfolding ExprAt rules.expr_with_precedence
form-returns-in-FString t c =
    laid_as (cc) (expr_laid _ (expr_is _ _ _ 69 (c.read.ensures ∙ ap expr_number c.in-FString.is)) (rank c.args.outer)
    (record { of = λ x a. (lays_as c.requires.accepted c.fstr.ensures).of x a }))

pub form-returns-in-Parentheses : goal.form-returns-in-Parentheses
unfolding ExprAt rules.expr_with_precedence
form-returns-in-Parentheses t c =
    laid_as (cc) (expr_laid _ (expr_is _ _ _ 70 (c.read.ensures ∙ ap expr_number c.in-Parentheses.is)) (rank c.args.outer)
    (record { of = λ x a. (lays_as c.requires.accepted c.par.ensures).of x a }))

pub fstr-start-requires : goal.fstr-start-requires
unfolding ExprAt
fstr-start-requires t c = head_whole c.requires.held.0

pub fstr-gap-requires : goal.fstr-gap-requires
unfolding ExprAt rules.expr_with_precedence
fstr-gap-requires t c = (room_first _ (rw (← c.requires.held.0.start, ← c.start.ensures) at c.requires.room))

pub fstr-word-requires : goal.fstr-word-requires
unfolding ExprAt rules.expr_with_precedence
fstr-word-requires t c =
    room_first _ (room_next (rw (← c.requires.held.0.start, ← c.start.ensures) at c.requires.room) (lays c.gap.ensures.laid))

pub fstr-overflow_add-at : goal.fstr-overflow_add-at
unfolding ExprAt
fstr-overflow_add-at t c =
    omega (
      arith,
      c.requires.accepted.small,
      c.requires.held.0.long,
      c.requires.held.0.fits,
      c.requires.held.1.0.head.long,
      c.requires.held.1.0.head.fits,
    )

pub fstr-overflow_add-at-2 : goal.fstr-overflow_add-at-2
unfolding ExprAt
fstr-overflow_add-at-2 t c =
    omega (
      arith,
      c.requires.accepted.small,
      c.requires.held.0.long,
      c.requires.held.0.fits,
      c.requires.held.1.0.head.long,
      c.requires.held.1.0.head.fits,
    )

pub fstr-second-requires : goal.fstr-second-requires
unfolding ExprAt
fstr-second-requires t c =
    record { fits = c.requires.held.1.0.head.fits }

pub fstr-parts-requires : goal.fstr-parts-requires
unfolding ExprAt rules.expr_with_precedence
fstr-parts-requires t c =
    rw c.second.ensures (
      omega (arith, c.decreases, c.requires.held.1.2.same),
      record {
        accepted = c.requires.accepted;
        tree = c.requires.tree.1;
        held = c.requires.held.1.1;
        inside = c.requires.held.1.0.head.fits;
        room =
            room_first _ (room_next
            (room_next (rw (← c.requires.held.0.start, ← c.start.ensures) at c.requires.room) (lays c.gap.ensures.laid))
            (lays c.word.ensures.laid));
      },
    )

pub fstr-word-requires-2 : goal.fstr-word-requires-2
unfolding ExprAt rules.expr_with_precedence
fstr-word-requires-2 t c =
    room_next (room_next
    (room_next (rw (← c.requires.held.0.start, ← c.start.ensures) at c.requires.room) (lays c.gap.ensures.laid))
    (lays c.word.ensures.laid))
    ((lays_all c.requires.accepted (rw c.second.ensures c.requires.held.1.0.head.fits) c.parts.ensures).of
    c.requires.tree.1 (rw c.second.ensures c.requires.held.1.1))

pub fstr-returns : goal.fstr-returns
unfolding ExprAt rules.expr_with_precedence
fstr-returns t c =
    laid_as (cc) (record {
      of =
          λ x a. rw (← a.0.start, ← c.start.ensures) (lays_then (lays c.gap.ensures.laid) (lays_then (lays c.word.ensures.laid)
          (lays_then ((lays_all c.requires.accepted (rw c.second.ensures c.requires.held.1.0.head.fits)
          c.parts.ensures).of x.1 (rw c.second.ensures a.1.1))
          (lays c.word-2.ensures.laid))));
    })

pub function_args-separated-requires : goal.function_args-separated-requires
function_args-separated-requires t c =
    has_each ExprAt rules.expr_rule _ (λ p low high x h. (omega (arith, c.decreases, low, high), h)) (λ p x y r. r)
    ((record {
      accepted = c.requires.accepted;
      tree = rules.expr_elems _ c.requires.tree.1;
      held = list_of c.requires.held.0 (expr_elems_lem _ _ _ _ c.requires.tree.1 c.requires.held.1);
      span = c.requires.tree.0;
      ended = c.end.ensures ∙ c.requires.held.0.end;
      room = c.requires.room;
    }))

pub function_args-returns : goal.function_args-returns
function_args-returns t c =
    laid_as (cc) (record {
      of =
          λ x a.
          (lays_each ExprAt rules.expr_rule _ (λ p low high x h. (omega (arith, c.decreases, low, high), h)) (λ p x y r. r) c.requires.accepted
          c.separated.ensures).of (rules.expr_elems _ x.1)
          (list_of a.0 (expr_elems_lem _ _ _ _ x.1 a.1)) x.0 (c.end.ensures ∙ a.0.end);
    })

pub if_else-third-p-requires : goal.if_else-third-p-requires
unfolding ExprAt
if_else-third-p-requires t c =
    record {
      second_in_image = within (expr_whole _ _ _ c.requires.tree.1.0 c.requires.held.1.0);
      third_in_image = within (block_whole _ _ _ c.requires.tree.1.1 c.requires.held.1.1);
    }

pub if_else-cond-requires : goal.if_else-cond-requires
unfolding ExprAt rules.expr_with_precedence
if_else-cond-requires t c = (
  omega (arith, c.decreases, c.requires.held.1.3.same),
  record {
    accepted = c.requires.accepted;
    tree = (c.requires.tree.1.0, c.requires.tree.1.1);
    held = (c.requires.held.1.0, c.requires.held.1.1);
    room = room_first _ c.requires.room;
  },
)

pub if_else-is_absent-requires : goal.if_else-is_absent-requires
unfolding ExprAt
if_else-is_absent-requires t c =
    rw c.third-p.ensures (maybe_block_lem _ _ _ c.requires.tree.1.2 c.requires.held.1.2)

pub if_else-returns-then-is_absent : goal.if_else-returns-then-is_absent
unfolding ExprAt rules.expr_with_precedence
if_else-returns-then-is_absent t c =
    laid_as (cc)
    (let e : be32 c.args.parsed.now.image.now (stop_at c.args.parsed.now.image.now (stop_at c.args.parsed.now.image.now (c.args.at + 13))) ≡ 0 =
    absent (rw c.third-p.ensures at c.is_absent.ensures) c.if-is_absent.true
    in
    record {
      of =
          λ x a. lays_then ((lays_as c.requires.accepted c.cond.ensures).of (x.1.0, x.1.1) (a.1.0, a.1.1))
          ((no_else e).of x.1.2 a.1.2);
    })

pub if_else-word-requires : goal.if_else-word-requires
unfolding ExprAt rules.expr_with_precedence
if_else-word-requires t c =
    let f : be32 c.args.parsed.now.image.now (stop_at c.args.parsed.now.image.now (stop_at c.args.parsed.now.image.now (c.args.at + 13))) ≡ 0
    → ⊥ = present (rw c.third-p.ensures at c.is_absent.ensures) c.if-is_absent.false
    in
    let h =
    has_block f (record {
      accepted = c.requires.accepted;
      tree = c.requires.tree.1.2;
      held = c.requires.held.1.2;
      room =
          room_next c.requires.room ((lays_as c.requires.accepted c.cond.ensures).of
          (c.requires.tree.1.0, c.requires.tree.1.1) (c.requires.held.1.0, c.requires.held.1.1));
    })
    in
    room_first _ h.room

pub if_else-block-requires : goal.if_else-block-requires
unfolding ExprAt rules.expr_with_precedence
if_else-block-requires t c =
    let f : be32 c.args.parsed.now.image.now (stop_at c.args.parsed.now.image.now (stop_at c.args.parsed.now.image.now (c.args.at + 13))) ≡ 0 → ⊥ =
    present (rw c.third-p.ensures at c.is_absent.ensures) c.if-is_absent.false
    in
    let h =
    has_block f (record {
      accepted = c.requires.accepted;
      tree = c.requires.tree.1.2;
      held = c.requires.held.1.2;
      room =
          room_next c.requires.room ((lays_as c.requires.accepted c.cond.ensures).of
          (c.requires.tree.1.0, c.requires.tree.1.1) (c.requires.held.1.0, c.requires.held.1.1));
    })
    in
    rw c.third-p.ensures
    (omega (arith, c.decreases, c.requires.held.1.3.same), has_at h (room_next h.room (lays c.word.ensures.laid)))

pub if_else-returns : goal.if_else-returns
unfolding ExprAt rules.expr_with_precedence
if_else-returns t c =
    laid_as (cc)
    (let f : be32 c.args.parsed.now.image.now (stop_at c.args.parsed.now.image.now (stop_at c.args.parsed.now.image.now (c.args.at + 13))) ≡ 0
    → ⊥ = present (rw c.third-p.ensures at c.is_absent.ensures) c.if-is_absent.false
    in
    let l = rw c.third-p.ensures at (lays_as c.requires.accepted c.block.ensures) in
    record {
      of =
          λ x a. lays_then ((lays_as c.requires.accepted c.cond.ensures).of (x.1.0, x.1.1) (a.1.0, a.1.1))
          ((some_else f (lays c.word.ensures.laid) l).of x.1.2 a.1.2);
    })

pub last-is_absent-requires : goal.last-is_absent-requires
last-is_absent-requires t c = maybe_expr_lem _ _ _ c.requires.tree c.requires.held

pub last-returns-then-is_absent : goal.last-returns-then-is_absent
last-returns-then-is_absent t c = laid_as (cc) (no_last _ (absent c.is_absent.ensures c.if-is_absent.true))

pub last-start-requires : goal.last-start-requires
last-start-requires t c =
    let h = has_last c.args.first (present c.is_absent.ensures c.if-is_absent.false) refl c.requires in
    expr_whole _ _ _ h.tree h.held

pub last-before_stmt-requires : goal.last-before_stmt-requires
last-before_stmt-requires t c =
    let h = has_last c.args.first (present c.is_absent.ensures c.if-is_absent.false) c.start.ensures c.requires in (room_first _ h.room)

pub last-expr-requires : goal.last-expr-requires
last-expr-requires t c =
    let h = has_last c.args.first (present c.is_absent.ensures c.if-is_absent.false) c.start.ensures c.requires in
    (omega (arith, c.decreases), has_at h (room_first _ (room_next h.room (lays c.before_stmt.ensures.laid))))

pub last-pop_trailing_comment-requires : goal.last-pop_trailing_comment-requires
last-pop_trailing_comment-requires t c =
    let h = has_last c.args.first (present c.is_absent.ensures c.if-is_absent.false) c.start.ensures c.requires in
    (room_next (room_next h.room (lays c.before_stmt.ensures.laid))
    ((lays_as c.requires.accepted c.expr.ensures).of h.tree h.held))

pub last-returns : goal.last-returns
last-returns t c =
    laid_as (cc) (some_last _ (present c.is_absent.ensures c.if-is_absent.false) c.start.ensures
    (lays c.before_stmt.ensures.laid) (lays_as c.requires.accepted c.expr.ensures)
    (lays c.pop_trailing_comment.ensures.laid))

pub match_expr-second-p-requires : goal.match_expr-second-p-requires
unfolding ExprAt
match_expr-second-p-requires t c = within (expr_whole _ _ _ c.requires.tree.1.0 c.requires.held.1.0)

pub match_expr-word-requires : goal.match_expr-word-requires
unfolding ExprAt rules.expr_with_precedence
match_expr-word-requires t c = room_first _ c.requires.room

pub match_expr-expr-requires : goal.match_expr-expr-requires
unfolding ExprAt rules.expr_with_precedence
match_expr-expr-requires t c = (
  omega (arith, c.decreases, c.requires.held.1.3.same),
  record {
    accepted = c.requires.accepted;
    tree = c.requires.tree.1.0;
    held = c.requires.held.1.0;
    room = room_first _ (room_next c.requires.room (lays c.word.ensures.laid));
  },
)

pub match_expr-word-requires-2 : goal.match_expr-word-requires-2
unfolding ExprAt rules.expr_with_precedence
match_expr-word-requires-2 t c =
    room_first _ (room_next (room_next c.requires.room (lays c.word.ensures.laid))
    ((lays_as c.requires.accepted c.expr.ensures).of c.requires.tree.1.0 c.requires.held.1.0))

pub match_expr-end-requires : goal.match_expr-end-requires
unfolding ExprAt
match_expr-end-requires t c =
    rw c.second-p.ensures (head_whole c.requires.held.1.1)

pub match_expr-separated-requires : goal.match_expr-separated-requires
unfolding ExprAt rules.expr_with_precedence
match_expr-separated-requires t c =
    let stop = ap (λ (n : ℕ). stop_at c.args.parsed.now.image.now n) c.second-p.ensures in
    has_each ArmAt arm_rule _
    (λ p low high x h. (omega (arith, c.decreases, low, high, c.second-p.ensures, stop, c.requires.held.1.3.same), h)) (λ p x y r. r)
    (rw (c.end.ensures, c.second-p.ensures) (record {
      accepted = c.requires.accepted;
      tree = rules.arm_elems _ c.requires.tree.1.2;
      held = list_of c.requires.held.1.1 (arm_elems_lem _ _ _ _ c.requires.tree.1.2 c.requires.held.1.2);
      span = c.requires.tree.1.1;
      ended = c.requires.held.1.1.end;
      room =
          room_next (room_next (room_next c.requires.room (lays c.word.ensures.laid))
          ((lays_as c.requires.accepted c.expr.ensures).of c.requires.tree.1.0 c.requires.held.1.0))
          (lays c.word-2.ensures.laid);
    }))

pub match_expr-returns : goal.match_expr-returns
unfolding ExprAt rules.expr_with_precedence
match_expr-returns t c =
    laid_as (cc)
    (let stop = ap (λ (n : ℕ). stop_at c.args.parsed.now.image.now n) c.second-p.ensures in
    let l = rw (c.end.ensures, c.second-p.ensures) at
    (lays_each ArmAt arm_rule _
    (λ p low high x h. (omega (arith, c.decreases, low, high, c.second-p.ensures, stop, c.requires.held.1.3.same), h)) (λ p x y r. r)
    c.requires.accepted c.separated.ensures) in
    record {
      of =
          λ x a.
          lays_then (lays c.word.ensures.laid)
          (lays_then ((lays_as c.requires.accepted c.expr.ensures).of x.1.0 a.1.0)
          (lays_then (lays c.word-2.ensures.laid)
          (l.of (rules.arm_elems _ x.1.2) (list_of a.1.1 (arm_elems_lem _ _ _ _ x.1.2 a.1.2)) x.1.1 a.1.1.end)));
    })

pub maybe-is_absent-requires : goal.maybe-is_absent-requires
maybe-is_absent-requires t c = maybe_expr_lem _ _ _ c.requires.tree c.requires.held

pub maybe-returns-then-is_absent : goal.maybe-returns-then-is_absent
maybe-returns-then-is_absent t c = laid_as (cc) (no_maybe c.args.k (absent c.is_absent.ensures c.if-is_absent.true))

pub maybe-after-requires : goal.maybe-after-requires
maybe-after-requires t c =
    (omega (arith, c.decreases), has_expr c.args.k (present c.is_absent.ensures c.if-is_absent.false) c.requires)

pub maybe-returns : goal.maybe-returns
maybe-returns t c =
    laid_as (cc) (some_maybe c.args.k (present c.is_absent.ensures c.if-is_absent.false)
    (lays_as c.requires.accepted c.after.ensures))

pub par-start-requires : goal.par-start-requires
unfolding ExprAt
par-start-requires t c = head_whole c.requires.held.0

pub par-gap-requires : goal.par-gap-requires
unfolding ExprAt rules.expr_with_precedence
par-gap-requires t c = (room_first _ (rw (← c.requires.held.0.start, ← c.start.ensures) at c.requires.room))

pub par-word-requires : goal.par-word-requires
unfolding ExprAt rules.expr_with_precedence
par-word-requires t c =
    room_first _ (room_next (rw (← c.requires.held.0.start, ← c.start.ensures) at c.requires.room) (lays c.gap.ensures.laid))

pub par-overflow_add-at : goal.par-overflow_add-at
unfolding ExprAt
par-overflow_add-at t c =
    omega (arith, c.requires.accepted.small, c.requires.held.0.long, c.requires.held.0.fits)

pub par-expr-requires : goal.par-expr-requires
unfolding ExprAt rules.expr_with_precedence
par-expr-requires t c = (
  omega (arith, c.decreases, c.requires.held.1.1.same),
  record {
    accepted = c.requires.accepted;
    tree = c.requires.tree.1;
    held = c.requires.held.1.0;
    room =
        room_first _ (room_next
        (room_next (rw (← c.requires.held.0.start, ← c.start.ensures) at c.requires.room) (lays c.gap.ensures.laid))
        (lays c.word.ensures.laid));
  },
)

pub par-word-requires-2 : goal.par-word-requires-2
unfolding ExprAt rules.expr_with_precedence
par-word-requires-2 t c =
    room_next (room_next
    (room_next (rw (← c.requires.held.0.start, ← c.start.ensures) at c.requires.room) (lays c.gap.ensures.laid))
    (lays c.word.ensures.laid))
    ((lays_as c.requires.accepted c.expr.ensures).of c.requires.tree.1 c.requires.held.1.0)

pub par-returns : goal.par-returns
unfolding ExprAt rules.expr_with_precedence
par-returns t c =
    laid_as (cc)
    (record {
      of =
          λ x a.
          rw (← a.0.start, ← c.start.ensures)
          (lays_then (lays c.gap.ensures.laid) (lays_then (lays c.word.ensures.laid)
          (lays_then ((lays_as c.requires.accepted c.expr.ensures).of x.1 a.1.0) (lays c.word-2.ensures.laid))));
    })

pub part-read-requires : goal.part-read-requires
part-read-requires t c = part_has_kind _ _ _ c.requires.tree c.requires.held

pub part-content-requires : goal.part-content-requires
part-content-requires t c =
    text_has (is_part _ parts.String c.read.ensures c.eq.ensures c.if-eq.true) c.requires

pub part-returns-then-eq : goal.part-returns-then-eq
part-returns-then-eq t c =
    laid_as (cc) (text_laid (is_part _ parts.String c.read.ensures c.eq.ensures c.if-eq.true) (lays_as c.requires.accepted c.content.ensures))

pub part-word-requires : goal.part-word-requires
part-word-requires t c =
    let h = value_has (other_part _ parts.String c.read.ensures c.eq.ensures c.if-eq.false) c.requires in
    room_first _ h.room

pub part-expr-requires : goal.part-expr-requires
part-expr-requires t c =
    let h = value_has (other_part _ parts.String c.read.ensures c.eq.ensures c.if-eq.false) c.requires in (
      omega (arith, c.decreases, h.held.1.same),
      record {
        accepted = c.requires.accepted;
        tree = h.tree;
        held = h.held.0;
        room = room_first _ (room_next h.room (lays c.word.ensures.laid));
      },
    )

pub part-word-requires-2 : goal.part-word-requires-2
part-word-requires-2 t c =
    let h = value_has (other_part _ parts.String c.read.ensures c.eq.ensures c.if-eq.false) c.requires in
    room_next (room_next h.room (lays c.word.ensures.laid)) ((lays_as c.requires.accepted c.expr.ensures).of h.tree h.held.0)

pub part-returns : goal.part-returns
part-returns t c =
    laid_as (cc) (value_laid (other_part _ parts.String c.read.ensures c.eq.ensures c.if-eq.false) (lays c.word.ensures.laid)
    (lays_as c.requires.accepted c.expr.ensures) (lays c.word-2.ensures.laid))

pub parts-records-at-items-requires : goal.parts-records-at-items-requires
parts-records-at-items-requires t c = parts_in _ _ _ _ _ c.requires.held

pub parts-part-requires : goal.parts-part-requires
parts-part-requires t c =
    let n = next_part c.loop-at.invariant c.in-Some.ensures.steps in
    let m = parts_first n.before n.has in
    (omega (arith, c.decreases, m.least, n.far), part_has m)

pub parts-loop-at-preserved : goal.parts-loop-at-preserved
parts-loop-at-preserved t c =
    let n = next_part c.loop-at.invariant c.in-Some.ensures.steps in
    let laid = lays_as c.requires.accepted c.part.ensures in
    record {
      at = _;
      far = omega (arith, n.far);
      left_is = n.more_is;
      has = parts_rest (parts_first n.before n.has) laid;
      finishes = λ x e l. n.finishes x e (parts_more n.before laid l);
      same = c.part.ensures.same ∙ c.loop-at.invariant.same;
    }

pub parts-returns : goal.parts-returns
parts-returns t c = laid_all (cc) (c.loop-at.invariant.finishes _ _ (parts_none (none_left c.loop-at.invariant c.in-None.ensures.steps.0)))

pub record-separated-requires : goal.record-separated-requires
record-separated-requires t c =
    has_each EntryAt entry_rule _ (λ p low high x h. (omega (arith, c.decreases, low, high), h)) (λ p x y r. r)
    ((record {
      accepted = c.requires.accepted;
      tree = rules.entry_elems _ c.requires.tree.1;
      held = list_of c.requires.held.0 (entry_elems_lem _ _ _ _ c.requires.tree.1 c.requires.held.1);
      span = c.requires.tree.0;
      ended = c.end.ensures ∙ c.requires.held.0.end;
      room = c.requires.room;
    }))

pub record-returns : goal.record-returns
record-returns t c =
    laid_as (cc) (record {
      of =
          λ x a.
          (lays_each EntryAt entry_rule _ (λ p low high x h. (omega (arith, c.decreases, low, high), h)) (λ p x y r. r) c.requires.accepted
          c.separated.ensures).of (rules.entry_elems _ x.1)
          (list_of a.0 (entry_elems_lem _ _ _ _ x.1 a.1)) x.0 (c.end.ensures ∙ a.0.end);
    })

pub ret-return_word-requires : goal.ret-return_word-requires
unfolding ExprAt
ret-return_word-requires t c =
    let w = maybe_expr_lem _ _ _ c.requires.tree.1.1 c.requires.held.1.2 in
    record { at_in_bounds = omega (arith, w.fits); at_bound = omega (arith, c.requires.held.1.0.byte, c.requires.held.1.1) }

pub ret-word-requires : goal.ret-word-requires
unfolding ExprAt rules.expr_with_precedence
ret-word-requires t c =
    let e : spelling c.return_word.result ≡ rules.return_word c.requires.tree.1.0 =
    c.return_word.ensures ∙ ap rules.return_word c.requires.held.1.0.byte in
    room_first _ (rw (← e) at c.requires.room)

pub ret-overflow_add-at : goal.ret-overflow_add-at
unfolding ExprAt
ret-overflow_add-at t c =
    let w = maybe_expr_lem _ _ _ c.requires.tree.1.1 c.requires.held.1.2 in
    omega (arith, c.requires.accepted.small, w.fits)

pub ret-maybe-requires : goal.ret-maybe-requires
unfolding ExprAt rules.expr_with_precedence
ret-maybe-requires t c =
    let e : spelling c.return_word.result ≡ rules.return_word c.requires.tree.1.0 =
    c.return_word.ensures ∙ ap rules.return_word c.requires.held.1.0.byte in (
      omega (arith, c.decreases, c.requires.held.1.3.same),
      record {
        accepted = c.requires.accepted;
        tree = c.requires.tree.1.1;
        held = c.requires.held.1.2;
        room = room_next (rw (← e) at c.requires.room) (lays c.word.ensures.laid);
      },
    )

pub ret-returns : goal.ret-returns
unfolding ExprAt rules.expr_with_precedence
ret-returns t c =
    laid_as (cc)
    (record {
      of =
          λ x a.
          let e : spelling c.return_word.result ≡ rules.return_word x.1.0 =
          c.return_word.ensures ∙ ap rules.return_word a.1.0.byte in
          rw (← e) (lays_then (lays c.word.ensures.laid) ((lays_as c.requires.accepted c.maybe.ensures).of x.1.1 a.1.2));
    })

pub stmt-read-requires : goal.stmt-read-requires
stmt-read-requires t c = stmt_has_kind _ _ _ c.requires.tree c.requires.held

pub stmt-bind-requires : goal.stmt-bind-requires
stmt-bind-requires t c =
    (omega (arith, c.decreases), let_has (c.read.ensures ∙ ap stmt_number c.in-Let.is) c.requires)

pub stmt-word-requires : goal.stmt-word-requires
stmt-word-requires t c =
    let h = import_has (c.read.ensures ∙ ap stmt_number c.in-Import.is) c.requires in
    room_first _ h.room

pub stmt-import_path-requires : goal.stmt-import_path-requires
unfolding StmtAt
stmt-import_path-requires t c =
    let h = import_has (c.read.ensures ∙ ap stmt_number c.in-Import.is) c.requires in
    (record {
      accepted = c.requires.accepted;
      tree = h.tree.1;
      held = h.held.1.0;
      room = room_first _ (room_next h.room (lays c.word.ensures.laid));
    })

pub stmt-word-requires-in-Import : goal.stmt-word-requires-in-Import
unfolding StmtAt
stmt-word-requires-in-Import t c =
    let h = import_has (c.read.ensures ∙ ap stmt_number c.in-Import.is) c.requires in
    room_next (room_next h.room (lays c.word.ensures.laid))
    ((lays_as c.requires.accepted c.import_path.ensures).of h.tree.1 h.held.1.0)

pub stmt-open-group-requires : goal.stmt-open-group-requires
stmt-open-group-requires t c =
    let h =
    does_has (λ e. omega (arith, e, c.read.ensures ∙ ap stmt_number c.in-Expr.is))
    (λ e. omega (arith, e, c.read.ensures ∙ ap stmt_number c.in-Expr.is)) c.requires
    in
    opens_group _ h.room

pub stmt-overflow_add-at-in-Expr : goal.stmt-overflow_add-at-in-Expr
stmt-overflow_add-at-in-Expr t c =
    let w = stmt_whole _ _ _ c.requires.tree c.requires.held in
    omega (arith, c.requires.accepted.small, w.long, w.fits)

pub stmt-expr-requires : goal.stmt-expr-requires
unfolding StmtAt
stmt-expr-requires t c =
    let h =
    does_has (λ e. omega (arith, e, c.read.ensures ∙ ap stmt_number c.in-Expr.is))
    (λ e. omega (arith, e, c.read.ensures ∙ ap stmt_number c.in-Expr.is)) c.requires
    in (
      omega (arith, c.decreases, h.held.1.1.same),
      record {
        accepted = c.requires.accepted;
        tree = h.tree.1;
        held = h.held.1.0;
        room = room_first _ (room_group _ h.room c.open-group.ensures.opened);
      },
    )

pub stmt-overflow_add-at-in-Expr-2 : goal.stmt-overflow_add-at-in-Expr-2
stmt-overflow_add-at-in-Expr-2 t c =
    let w = stmt_whole _ _ _ c.requires.tree c.requires.held in
    omega (arith, c.requires.accepted.small, w.long, w.fits)

pub stmt-semicolon-requires : goal.stmt-semicolon-requires
unfolding StmtAt
stmt-semicolon-requires t c =
    let h =
    does_has (λ e. omega (arith, e, c.read.ensures ∙ ap stmt_number c.in-Expr.is))
    (λ e. omega (arith, e, c.read.ensures ∙ ap stmt_number c.in-Expr.is)) c.requires
    in record {
      has_kind = expr_has_kind _ _ _ h.tree.1 h.held.1.0;
      room = room_next (room_group _ h.room c.open-group.ensures.opened)
          ((lays_as c.requires.accepted c.expr.ensures).of h.tree.1 h.held.1.0);
    }

pub stmt-returns-in-Let : goal.stmt-returns-in-Let
stmt-returns-in-Let t c =
    laid_as (cc) (let_laid (c.read.ensures ∙ ap stmt_number c.in-Let.is) (lays_as c.requires.accepted c.bind.ensures))

pub stmt-returns-in-Import : goal.stmt-returns-in-Import
stmt-returns-in-Import t c =
    laid_as (cc) (import_stmt_lem (c.read.ensures ∙ ap stmt_number c.in-Import.is) (lays c.word.ensures.laid)
    (lays_as c.requires.accepted c.import_path.ensures) (lays c.word-in-Import.ensures.laid))

pub stmt-returns-in-Expr : goal.stmt-returns-in-Expr
stmt-returns-in-Expr t c =
    laid_as (cc) (does_laid (λ e. omega (arith, e, c.read.ensures ∙ ap stmt_number c.in-Expr.is))
    (λ e. omega (arith, e, c.read.ensures ∙ ap stmt_number c.in-Expr.is)) c.open-group.ensures
    (lays_as c.requires.accepted c.expr.ensures) (lays c.semicolon.ensures.laid) c.close.ensures)

pub stmts-records-at-items-requires : goal.stmts-records-at-items-requires
stmts-records-at-items-requires t c = stmts_in _ _ _ _ _ c.requires.held

pub stmts-start-requires : goal.stmts-start-requires
stmts-start-requires t c =
    let n = next_part c.loop-at.invariant c.in-Some.ensures.steps in
    let m = stmts_first c.loop-at.first n.before n.has in
    m.whole

pub stmts-before_stmt-requires : goal.stmts-before_stmt-requires
stmts-before_stmt-requires t c =
    let n = next_part c.loop-at.invariant c.in-Some.ensures.steps in
    let m = stmts_first c.loop-at.first n.before n.has in
    before_stmt_room _ m c.start.ensures

pub stmts-stmt-requires : goal.stmts-stmt-requires
stmts-stmt-requires t c =
    let n = next_part c.loop-at.invariant c.in-Some.ensures.steps in
    let m = stmts_first c.loop-at.first n.before n.has in
    (omega (arith, c.decreases, m.least, n.far), stmt_has _ m c.start.ensures (lays c.before_stmt.ensures.laid))

pub stmts-end-requires : goal.stmts-end-requires
stmts-end-requires t c =
    let n = next_part c.loop-at.invariant c.in-Some.ensures.steps in
    let m = stmts_first c.loop-at.first n.before n.has in
    m.whole

pub stmts-after_stmt-requires : goal.stmts-after_stmt-requires
stmts-after_stmt-requires t c =
    let n = next_part c.loop-at.invariant c.in-Some.ensures.steps in
    let m = stmts_first c.loop-at.first n.before n.has in
    after_stmt_room _ m c.start.ensures c.end.ensures (lays c.before_stmt.ensures.laid) (lays_as c.requires.accepted c.stmt.ensures)

pub stmts-loop-at-preserved : goal.stmts-loop-at-preserved
stmts-loop-at-preserved t c =
    let n = next_part c.loop-at.invariant c.in-Some.ensures.steps in
    let m = stmts_first c.loop-at.first n.before n.has in
    let before = lays c.before_stmt.ensures.laid in
    let laid = lays_as c.requires.accepted c.stmt.ensures in
    let after = lays c.after_stmt.ensures.laid in
    record {
      at = _;
      far = omega (arith, n.far);
      left_is = n.more_is;
      has = stmts_rest _ m c.start.ensures c.end.ensures before laid after;
      finishes = λ x e l. n.finishes x e (stmts_more c.loop-at.first n.before c.start.ensures c.end.ensures before laid after l);
      same = c.after_stmt.ensures.same ∙ c.stmt.ensures.same ∙ c.before_stmt.ensures.same ∙ c.loop-at.invariant.same;
    }

pub stmts-returns : goal.stmts-returns
stmts-returns t c =
    laid_all (cc) (c.loop-at.invariant.finishes _ _ (stmts_none c.loop-at.first (none_left c.loop-at.invariant c.in-None.ensures.steps.0)))

pub tail-loop-n-init : goal.tail-loop-n-init
tail-loop-n-init t c =
    let f = c.requires.filled in
    let k : (c.args.left - c.args.at) / 13 ≡ f.count = omega (arith, f.far) in
    let z : c.args.left ≡ c.args.at + 13 * ((c.args.left - c.args.at) / 13) = omega (arith, f.far) in (
      refl,
      omega (arith, k, f.few),
      (λ i l. f.each i (omega (arith, k, l))),
      (
        c.requires.tree,
        c.requires.held,
        c.requires.precedence,
        c.requires.low,
        subst (λ (v : ℕ). Above c.requires.precedence c.args.parsed.now.source.now c.args.parsed.now.image.now c.requires.tree
            c.args.at v c.requires.low)
            z c.requires.above,
      ),
      λ q e held x a h room.
          subst (λ (v : ℕ). Going q c.args.parsed.now.source.now c.args.parsed.now.image.now e c.args.at v true
          (grown a (rules.leftmost h)) c.args.state.now.store.now c.args.state.now.cursor c.args.state.now.store.now c.args.state.now.cursor)
          z
          (record { low = x; above = a; done = rules.leftmost h; begun = refl; laid = lays_skip; same = refl; room = room }),
    )

pub tail-offset_bounds-ops-n : goal.tail-offset_bounds-ops-n
tail-offset_bounds-ops-n t c = omega (arith, c.loop-n.invariant.1)

pub tail-bounds-ops-n : goal.tail-bounds-ops-n
tail-bounds-ops-n t c = omega (arith, c.loop-n.invariant.1, c.loop-n-test.true)

pub tail-second-requires : goal.tail-second-requires
unfolding ExprAt
tail-second-requires t c =
    let k : get_or c.args.ops.now (c.loop-n.n - 1) 0 ≡ c.args.at + 13 * (c.loop-n.n - 1) =
    c.loop-n.invariant.2 (c.loop-n.n - 1) (omega (arith, c.loop-n-test.true))
    in
    let y =
    above_at (get_or c.args.ops.now (c.loop-n.n - 1) 0) (omega (arith, c.loop-n-test.true))
    (omega (arith, k, c.loop-n-test.true)) c.loop-n.invariant.3.4
    in
    within (expr_whole _ _ _ y.tree.1.0 y.held.1.0)

pub tail-operator-requires : goal.tail-operator-requires
tail-operator-requires t c =
    let k : get_or c.args.ops.now (c.loop-n.n - 1) 0 ≡ c.args.at + 13 * (c.loop-n.n - 1) =
    c.loop-n.invariant.2 (c.loop-n.n - 1) (omega (arith, c.loop-n-test.true))
    in
    let n =
    going_next {m = get_or c.args.ops.now (c.loop-n.n - 1) 0} (omega (arith, c.loop-n-test.true))
    (omega (arith, k, c.loop-n-test.true)) (c.loop-n.invariant.4 c.requires.precedence c.requires.tree
    c.requires.held c.requires.low c.requires.above c.requires.head c.requires.room)
    in
    rw c.second.ensures (operator_has c.requires.accepted n)

pub tail-third-requires : goal.tail-third-requires
unfolding ExprAt
tail-third-requires t c =
    let k : get_or c.args.ops.now (c.loop-n.n - 1) 0 ≡ c.args.at + 13 * (c.loop-n.n - 1) =
    c.loop-n.invariant.2 (c.loop-n.n - 1) (omega (arith, c.loop-n-test.true))
    in
    let y =
    above_at (get_or c.args.ops.now (c.loop-n.n - 1) 0) (omega (arith, c.loop-n-test.true))
    (omega (arith, k, c.loop-n-test.true)) c.loop-n.invariant.3.4
    in
    record { second_in_image = within (expr_whole _ _ _ y.tree.1.0 y.held.1.0); third_in_image = within (head_whole y.held.1.1.head) }

pub tail-expr-requires : goal.tail-expr-requires
unfolding ExprAt
tail-expr-requires t c =
    let k : get_or c.args.ops.now (c.loop-n.n - 1) 0 ≡ c.args.at + 13 * (c.loop-n.n - 1) =
    c.loop-n.invariant.2 (c.loop-n.n - 1) (omega (arith, c.loop-n-test.true))
    in
    let y =
    above_at (get_or c.args.ops.now (c.loop-n.n - 1) 0) (omega (arith, c.loop-n-test.true))
    (omega (arith, k, c.loop-n-test.true)) c.loop-n.invariant.3.4
    in
    let n =
    going_next {m = get_or c.args.ops.now (c.loop-n.n - 1) 0} (omega (arith, c.loop-n-test.true))
    (omega (arith, k, c.loop-n-test.true)) (c.loop-n.invariant.4 c.requires.precedence c.requires.tree c.requires.held
    c.requires.low c.requires.above c.requires.head c.requires.room)
    in
    rw c.third.ensures (
      omega (arith, c.decreases, y.held.1.4.same, above_size y.above),
      right_has c.requires.accepted n (rw c.second.ensures at (lays_as c.requires.accepted c.operator.ensures)),
    )

pub tail-loop-n-preserved : goal.tail-loop-n-preserved
tail-loop-n-preserved t c =
    let k : get_or c.args.ops.now (c.loop-n.n - 1) 0 ≡ c.args.at + 13 * (c.loop-n.n - 1) =
    c.loop-n.invariant.2 (c.loop-n.n - 1) (omega (arith, c.loop-n-test.true))
    in
    let y =
    above_at (get_or c.args.ops.now (c.loop-n.n - 1) 0) (omega (arith, c.loop-n-test.true))
    (omega (arith, k, c.loop-n-test.true)) c.loop-n.invariant.3.4
    in (
      c.expr.ensures.same ∙ c.operator.ensures.same ∙ c.loop-n.invariant.0,
      omega (arith, c.loop-n.invariant.1),
      (λ i l. c.loop-n.invariant.2 i (omega (arith, l))),
      (
        c.loop-n.invariant.3.0,
        c.loop-n.invariant.3.1,
        c.loop-n.invariant.3.2,
        syntax.expr y.tree.0 (four bin_op y.tree.1),
        subst (λ (v : ℕ). Above c.loop-n.invariant.3.2 c.args.parsed.now.source.now c.args.parsed.now.image.now c.loop-n.invariant.3.0
            c.args.at v (syntax.expr y.tree.0 (four bin_op y.tree.1)))
            k y.above,
      ),
      λ q e held x a h room.
          subst (λ (v : ℕ). Going q c.args.parsed.now.source.now c.args.parsed.now.image.now e c.args.at v false (grown a (rules.leftmost h))
          c.args.state.now.store.now c.args.state.now.cursor c.expr.new.state.store.now c.expr.new.state.cursor)
          k
          (going_step (omega (arith, c.loop-n-test.true)) (omega (arith, k, c.loop-n-test.true))
          (c.loop-n.invariant.4 q e held x a h room)
          (rw c.second.ensures at (lays_as c.requires.accepted c.operator.ensures))
          (rw c.third.ensures at (lays_as c.requires.accepted c.expr.ensures))),
    )

pub tail-returns : goal.tail-returns
tail-returns t c =
    laid_tail (cc) (record {
      of = λ q e held x a h. record { does = λ room. (going_end (omega (arith, c.loop-n-test.false)) (c.loop-n.invariant.4 q e held x a h room)).does room };
    })

pub list-end-requires : goal.list-end-requires
unfolding ExprAt
list-end-requires t c = head_whole c.requires.held.0

pub list-overflow_add-at : goal.list-overflow_add-at
unfolding ExprAt
list-overflow_add-at t c = omega (arith, c.requires.accepted.small, c.requires.held.0.long, c.requires.held.0.fits)

pub list-separated-requires : goal.list-separated-requires
unfolding ExprAt rules.expr_with_precedence
list-separated-requires t c =
    has_each ExprAt grouped_rule _ (λ p low high x h. (omega (arith, c.decreases, low, high, c.requires.held.1.2.same), h)) (λ p x y r. r)
    (record {
      accepted = c.requires.accepted;
      tree = rules.grouped_elems _ c.requires.tree.1;
      held = list_of c.requires.held.1.0.head (grouped_elems_lem _ _ _ _ c.requires.tree.1 c.requires.held.1.1);
      span = c.requires.tree.0;
      ended = c.end.ensures ∙ c.requires.held.0.end;
      room = c.requires.room;
    })

pub list-returns : goal.list-returns
unfolding ExprAt rules.expr_with_precedence
list-returns t c =
    laid_as (cc) (record {
      of =
          λ x a.
          (lays_each ExprAt grouped_rule _ (λ p low high x h. (omega (arith, c.decreases, low, high, a.1.2.same), h)) (λ p x y r. r)
          c.requires.accepted c.separated.ensures).of
          (rules.grouped_elems _ x.1) (list_of a.1.0.head (grouped_elems_lem _ _ _ _ x.1 a.1.1)) x.0
          (c.end.ensures ∙ a.0.end);
    })

pub grouped-open-group-requires : goal.grouped-open-group-requires
grouped-open-group-requires t c = opens_group _ c.requires.room

pub grouped-expr-requires : goal.grouped-expr-requires
grouped-expr-requires t c =
    (omega (arith, c.decreases), has_at c.requires (room_group _ c.requires.room c.open-group.ensures.opened))

pub grouped-returns : goal.grouped-returns
grouped-returns t c =
    laid_as (cc) (record {
      of =
          λ e a. closes_group _ c.open-group.ensures
          ((lays_as c.requires.accepted c.expr.ensures).of e a) c.close.ensures;
    })
