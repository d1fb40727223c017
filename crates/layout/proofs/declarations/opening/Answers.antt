use Rattle.layout.specs.Layout as rules
use Rattle.acts.proofs.Laws.{lays, lays_asking, room_asked, room_asks, lays_asks}
use Rattle.layout.proofs.declarations.opening.Goals as goal

pub pop_whitespace-gap-requires : goal.pop_whitespace-gap-requires
unfolding rules.opening
pop_whitespace-gap-requires c = (room_asked _ _ c.requires)

pub between-requires : goal.between-requires
unfolding rules.opening
between-requires c =
    record {
      room =
          room_asks _ c.requires (lays_asking c.pop_whitespace-gap.ensures.laid);
      small = tt;
    }

pub returns : goal.returns
unfolding rules.opening
returns c =
    record { laid = (lays_asks _ (lays_asking c.pop_whitespace-gap.ensures.laid) (lays c.between.ensures.laid)).does c.requires; same = cc }
