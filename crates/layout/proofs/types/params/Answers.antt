use mathlib.Core.Path.{◌∙◌}
use Rattle.layout.specs.Layout as rules
use Rattle.layout.proofs.Lays.{laid_as}
use Rattle.layout.specs.Elems.{FieldAt, field_rule}
use Rattle.layout.proofs.Listing.{has_each, lays_each}
use Rattle.layout.proofs.Runs.{list_of, field_elems_lem}
use Rattle.layout.proofs.types.params.Goals as goal

pub separated-requires : goal.separated-requires
separated-requires c =
    has_each FieldAt field_rule _ (λ p low high x h. h) (λ p x y r. r)
    (record {
      accepted = c.requires.accepted;
      tree = rules.field_elems _ c.requires.tree.1;
      held = list_of c.requires.held.0 (field_elems_lem _ _ _ _ c.requires.tree.1 c.requires.held.1);
      span = c.requires.tree.0;
      ended = c.end.ensures ∙ c.requires.held.0.end;
      room = c.requires.room;
    })

pub returns : goal.returns
returns c =
    laid_as (cc) (record {
      of =
          λ x a. (lays_each FieldAt field_rule _ (λ p low high x h. h) (λ p x y r. r) c.requires.accepted c.separated.ensures).of (rules.field_elems _ x.1)
          (list_of a.0 (field_elems_lem _ _ _ _ x.1 a.1)) x.0 (c.end.ensures ∙ a.0.end);
    })
