use Prim.Native.Nat.{◌+◌}
use mathlib.Core.Path.{◌≡◌, refl, sym, subst}
use native.Mathlib.Omega.{arith}
use Rattle.text.specs.Space.{trim_end}
use Rattle.text.proofs.Trims.{trim_before, trim_after}
use Rattle.image.specs.Read.{stop_at}
use Rattle.acts.specs.Act.{Act}
use Rattle.acts.specs.Laid.{Room}
use Rattle.acts.proofs.Laws.{lays, room_first, room_next}
use Rattle.layout.proofs.Places.{absent, present, maybe_ident}
use Rattle.layout.proofs.DeclarationForms.{has_ident, shebang_same, no_shebang, some_shebang}
use Rattle.layout.proofs.Lays.{laid_as}
use Rattle.layout.proofs.declarations.shebang.Goals as goal

pub is_absent-requires : goal.is_absent-requires
is_absent-requires c = maybe_ident _ _ _ c.requires.tree c.requires.held

pub returns-then-is_absent : goal.returns-then-is_absent
returns-then-is_absent c = laid_as (cc) (no_shebang (absent c.is_absent.ensures c.if-is_absent.true))

pub overflow_add-from-2 : goal.overflow_add-from-2
overflow_add-from-2 c =
    let h = has_ident (present c.is_absent.ensures c.if-is_absent.false) c.requires in
    omega (arith, c.requires.accepted.small, h.held.head.fits, h.held.starts, h.held.ends, c.width_bytes.ensures)

pub overflow_add-from : goal.overflow_add-from
overflow_add-from c =
    let h = has_ident (present c.is_absent.ensures c.if-is_absent.false) c.requires in
    omega (arith, c.requires.accepted.small, h.held.head.fits, h.held.starts, h.held.ends)

pub stored_width-requires : goal.stored_width-requires
stored_width-requires c =
    let h = has_ident (present c.is_absent.ensures c.if-is_absent.false) c.requires in
    omega (arith, h.held.head.fits, h.held.starts, h.held.ends)

pub past-requires : goal.past-requires
past-requires c =
    let h = has_ident (present c.is_absent.ensures c.if-is_absent.false) c.requires in
    record { fits = h.held.head.fits }

pub overflow_sub-size : goal.overflow_sub-size
overflow_sub-size c =
    let h = has_ident (present c.is_absent.ensures c.if-is_absent.false) c.requires in
    let t =
    trim_after c.args.parsed.now.image.now (c.args.at + 13 + c.width_bytes.result) (stop_at c.args.parsed.now.image.now c.args.at)
    (omega (arith, h.held.starts, h.held.ends, c.width_bytes.ensures))
    in
    let e : c.trim_end.result ≡ trim_end c.args.parsed.now.image.now (c.args.at + 13 + c.width_bytes.result) (stop_at c.args.parsed.now.image.now c.args.at) =
    rw (← c.past.ensures) c.trim_end.ensures
    in
    omega (arith, t, e)

pub overflow_cast-from : goal.overflow_cast-from
overflow_cast-from c =
    let h = has_ident (present c.is_absent.ensures c.if-is_absent.false) c.requires in
    omega (arith, c.requires.accepted.small, h.held.head.fits, h.held.starts, h.held.ends, c.width_bytes.ensures)

pub push-requires : goal.push-requires
push-requires c =
    let h = has_ident (present c.is_absent.ensures c.if-is_absent.false) c.requires in
    let u = trim_before c.args.parsed.now.image.now (c.args.at + 13 + c.width_bytes.result) (stop_at c.args.parsed.now.image.now c.args.at) in
    let e : c.trim_end.result ≡ trim_end c.args.parsed.now.image.now (c.args.at + 13 + c.width_bytes.result) (stop_at c.args.parsed.now.image.now c.args.at) =
    rw (← c.past.ensures) c.trim_end.ensures
    in record {
      room = room_first _ (subst (λ (z : Act). Room z c.args.state.now.cursor)
          (sym (shebang_same h.held c.stored_width.ensures.0 c.width_bytes.ensures refl (rw (c.trim_end.ensures, c.past.ensures)))) h.room);
      small = (omega (arith, c.requires.accepted.small, h.held.head.fits, u, e), omega (arith, c.stored_width.ensures.0, c.stored_width.ensures.1));
    }

pub push-requires-2 : goal.push-requires-2
push-requires-2 c =
    record {
      room = let h = has_ident (present c.is_absent.ensures c.if-is_absent.false) c.requires in
          room_next (subst (λ (z : Act). Room z c.args.state.now.cursor)
          (sym (shebang_same h.held c.stored_width.ensures.0 c.width_bytes.ensures refl (rw (c.trim_end.ensures, c.past.ensures)))) h.room)
          (lays c.push.ensures.laid);
      small = tt;
    }

pub returns : goal.returns
returns c =
    laid_as (cc) (some_shebang (present c.is_absent.ensures c.if-is_absent.false) c.stored_width.ensures.0 c.width_bytes.ensures refl
    (rw (c.trim_end.ensures, c.past.ensures)) (lays c.push.ensures.laid) (lays c.push-2.ensures.laid))
