use mathlib.Core.Path.{refl}
use native.Mathlib.Omega.{arith}
use Rattle.acts.proofs.Laws.{lays}
use Rattle.layout.proofs.IdentLaws.{ident_room, ident_laid}
use Rattle.layout.proofs.Lays.{laid_as}
use Rattle.layout.proofs.paths.ident.Goals as goal

pub push-requires : goal.push-requires
push-requires c =
    record {
      room = ident_room c.requires.held c.stored_width.ensures.0 c.width_bytes.ensures refl (rw c.past.ensures) c.requires.room;
      small = (
        omega (arith, c.past.ensures, c.requires.held.head.fits, c.requires.accepted.small),
        omega (arith, c.stored_width.ensures.0, c.stored_width.ensures.1),
      );
    }

pub returns : goal.returns
returns c =
    laid_as (cc) (record { of = λ i h. ident_laid h c.stored_width.ensures.0 c.width_bytes.ensures refl (rw c.past.ensures) (lays c.push.ensures.laid) })
