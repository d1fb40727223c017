use mathlib.Core.Path.{◌≡◌}
use Prim.Native.Nat.{◌+◌}
use native.Mathlib.Omega.{arith}
use Rattle.acts.proofs.Laws.{lays, room_first, room_next}
use Rattle.layout.proofs.Lays.{lays_as, laid_as}
use Rattle.tree.specs.At.{ImportAt}
use Rattle.layout.specs.Layout.{import_path}
use Rattle.layout.proofs.Listing.{has_each, lays_each}
use Rattle.layout.proofs.Places.{maybe_path, group_within, absent, present}
use Rattle.layout.proofs.Groups.{import_parts, import_laid, no_group_lem, single_true, single_false, group_whole, group_next, group_list}
use Rattle.layout.proofs.Groups.{group_first, one_import, more_imports}
use Rattle.image.specs.Read.{stop_at}
use Rattle.layout.proofs.imports.+import.Goals as goal

pub import_group-is_absent-requires : goal.import_group-is_absent-requires
import_group-is_absent-requires t c = group_within _ _ _ c.requires.tree c.requires.held

pub import_group-returns-then-is_absent : goal.import_group-returns-then-is_absent
import_group-returns-then-is_absent t c = laid_as (cc) (no_group_lem (absent c.is_absent.ensures c.if-is_absent.true))

pub import_group-is_single-requires : goal.import_group-is_single-requires
import_group-is_single-requires t c =
    let there = present c.is_absent.ensures c.if-is_absent.false in
    record {
      whole = group_whole _ _ _ there c.requires.tree c.requires.held;
      in_image = group_next _ _ _ there c.requires.tree c.requires.held;
    }

pub import_group-overflow_add-at : goal.import_group-overflow_add-at
import_group-overflow_add-at t c =
    let w = group_whole _ _ _ (present c.is_absent.ensures c.if-is_absent.false) c.requires.tree c.requires.held in
    omega (arith, c.requires.accepted.small, w.long, w.fits)

pub import_group-import_path-requires : goal.import_group-import_path-requires
import_group-import_path-requires t c =
    let q : (stop_at c.args.parsed.now.image.now c.args.at ≡ c.args.at + 13 → ⊥)
    × (stop_at c.args.parsed.now.image.now (c.args.at + 13) ≡ stop_at c.args.parsed.now.image.now c.args.at) =
    single_true c.is_single.ensures c.if-is_single.true in
    (omega (arith, c.decreases, q.1), group_first (present c.is_absent.ensures c.if-is_absent.false) q.0 q.1 c.requires)

pub import_group-returns-then-is_single : goal.import_group-returns-then-is_single
import_group-returns-then-is_single t c =
    laid_as (cc)
    (let q = single_true c.is_single.ensures c.if-is_single.true in
    one_import (present c.is_absent.ensures c.if-is_absent.false) q.0
    q.1 (lays_as c.requires.accepted c.import_path.ensures))

pub import_group-end-requires : goal.import_group-end-requires
import_group-end-requires t c =
    group_whole _ _ _ (present c.is_absent.ensures c.if-is_absent.false) c.requires.tree c.requires.held

pub import_group-separated-requires : goal.import_group-separated-requires
import_group-separated-requires t c =
    has_each ImportAt import_path _ (λ p low high x h. (omega (arith, c.decreases, low, high), h)) (λ p x y r. r)
    (rw c.end.ensures (group_list (present c.is_absent.ensures c.if-is_absent.false)
    (single_false c.is_single.ensures c.if-is_single.false) c.requires))

pub import_group-returns : goal.import_group-returns
import_group-returns t c =
    laid_as (cc) (more_imports (present c.is_absent.ensures c.if-is_absent.false) (single_false c.is_single.ensures c.if-is_single.false)
    (rw c.end.ensures at
    (lays_each ImportAt import_path _ (λ p low high x h. (omega (arith, c.decreases, low, high), h)) (λ p x y r. r) c.requires.accepted c.separated.ensures)))

pub import_path-second-p-requires : goal.import_path-second-p-requires
import_path-second-p-requires t c = let w = import_parts c.requires in maybe_path _ _ _ w.tree.0 w.held.1

pub import_path-import_first-requires : goal.import_path-import_first-requires
import_path-import_first-requires t c =
    let w = import_parts c.requires in
    record { accepted = c.requires.accepted; tree = w.tree.0; held = w.held.1; room = room_first _ w.room }

pub import_path-import_dot-requires : goal.import_path-import_dot-requires
import_path-import_dot-requires t c =
    let w = import_parts c.requires in
    rw c.second-p.ensures (record {
      path_in_image = maybe_path _ _ _ w.tree.0 w.held.1;
      group_in_image = group_within _ _ _ w.tree.1 w.held.2;
      room = room_first _ (room_next w.room ((lays_as c.requires.accepted c.import_first.ensures).of w.tree.0 w.held.1));
    })

pub import_path-import_group-requires : goal.import_path-import_group-requires
import_path-import_group-requires t c =
    let w = import_parts c.requires in
    rw c.second-p.ensures (
      omega (arith, c.decreases, w.held.3.same),
      record {
        accepted = c.requires.accepted;
        tree = w.tree.1;
        held = w.held.2;
        room =
            room_next (room_next w.room ((lays_as c.requires.accepted c.import_first.ensures).of w.tree.0 w.held.1))
            (rw c.second-p.ensures at (lays c.import_dot.ensures.laid));
      },
    )

pub import_path-returns : goal.import_path-returns
import_path-returns t c =
    laid_as (cc) (import_laid (lays_as c.requires.accepted c.import_first.ensures)
    (rw c.second-p.ensures at (lays c.import_dot.ensures.laid))
    (rw c.second-p.ensures at (lays_as c.requires.accepted c.import_group.ensures)))
