use mathlib.Core.Path.{◌∙◌}
use Rattle.acts.proofs.Laws.{room_first, room_next, room_assoc, lays_then, lays_assoc}
use Rattle.layout.specs.Layout as rules
use Rattle.tree.specs.At.{DeclarationAt}
use Rattle.layout.proofs.Places.{within, head_whole, ident_whole, maybe_list}
use Rattle.layout.specs.Elems.{VariantAt, variant_rule}
use Rattle.layout.proofs.Listing.{has_each, lays_each}
use Rattle.layout.proofs.Runs.{list_of, variant_elems_lem}
use Rattle.layout.proofs.Lays.{lays_as, laid_as}
use Rattle.layout.proofs.declarations.decl_enum.Goals as goal

pub third-q-requires : goal.third-q-requires
unfolding DeclarationAt
third-q-requires c =
    record {
      second_in_image = within (ident_whole c.requires.held.1);
      third_in_image = maybe_list _ _ _ c.requires.tree.1 c.requires.held.2;
    }

pub declares_type-requires : goal.declares_type-requires
unfolding DeclarationAt rules.declaration
declares_type-requires c =
    record {
      accepted = c.requires.accepted;
      tree = (c.requires.tree.0, c.requires.tree.1);
      held = (c.requires.held.1, c.requires.held.2);
      room = room_first _ (room_assoc _ _ _ (room_assoc _ _ _ c.requires.room));
    }

pub end-requires : goal.end-requires
unfolding DeclarationAt
end-requires c =
    rw c.third-q.ensures (head_whole c.requires.held.3)

pub separated-requires : goal.separated-requires
unfolding DeclarationAt rules.declaration
separated-requires c =
    has_each VariantAt variant_rule _ (λ p low high x h. h) (λ p x y r. r)
    (rw c.third-q.ensures (record {
      accepted = c.requires.accepted;
      tree = rules.variant_elems _ c.requires.tree.3;
      held = list_of c.requires.held.3 (variant_elems_lem _ _ _ _ c.requires.tree.3 c.requires.held.4);
      span = c.requires.tree.2;
      ended = (rw c.third-q.ensures at c.end.ensures) ∙ c.requires.held.3.end;
      room =
          room_next (room_assoc _ _ _ (room_assoc _ _ _ c.requires.room))
          ((lays_as c.requires.accepted c.declares_type.ensures).of (c.requires.tree.0, c.requires.tree.1) (c.requires.held.1, c.requires.held.2));
    }))

pub returns : goal.returns
unfolding DeclarationAt rules.declaration
returns c =
    laid_as (cc) (record {
      of =
          λ x a.
          lays_assoc _ _ _ (lays_assoc _ _ _
          (lays_then ((lays_as c.requires.accepted c.declares_type.ensures).of (x.0, x.1) (a.1, a.2)) ((rw c.third-q.ensures
          at (lays_each VariantAt variant_rule _ (λ p low high x h. h) (λ p x y r. r) c.requires.accepted c.separated.ensures)).of
          (rules.variant_elems _ x.3) (list_of a.3 (variant_elems_lem _ _ _ _ x.3 a.4)) x.2
          ((rw c.third-q.ensures at c.end.ensures) ∙ a.3.end))));
    })
