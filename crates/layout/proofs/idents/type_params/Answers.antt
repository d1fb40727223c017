use mathlib.Core.Path.{◌∙◌}
use Rattle.comments.specs.Listed.{given}
use Rattle.layout.specs.Layout as rules
use Rattle.layout.proofs.Lays.{laid_as}
use Rattle.tree.specs.At.{IdentAt}
use Rattle.layout.proofs.Listing.{has_each, lays_each}
use Rattle.layout.proofs.Runs.{list_of, ident_elems_lem}
use Rattle.layout.proofs.idents.type_params.Goals as goal

pub separated-requires : goal.separated-requires
separated-requires c =
    has_each IdentAt rules.ident _ (λ p low high x h. h) (λ p x y r. r)
    (record {
      accepted = c.requires.accepted;
      tree = rules.ident_elems (given c.args.parsed.now.source.now c.args.parsed.now.image.now) c.requires.tree.elems;
      held = list_of c.requires.held.head (ident_elems_lem _ _ _ _ c.requires.tree.elems c.requires.held.elems);
      span = c.requires.tree.span;
      ended = c.end.ensures ∙ c.requires.held.head.end;
      room = c.requires.room;
    })

pub returns : goal.returns
returns c =
    laid_as (cc) (record {
      of =
          λ x a. (lays_each IdentAt rules.ident _ (λ p low high x h. h) (λ p x y r. r) c.requires.accepted c.separated.ensures).of
          (rules.ident_elems (given c.args.parsed.now.source.now c.args.parsed.now.image.now) x.elems)
          (list_of a.head (ident_elems_lem _ _ _ _ x.elems a.elems)) x.span (c.end.ensures ∙ a.head.end);
    })
