use Rattle.acts.proofs.Laws.{lays_then, room_first, room_next}
use Rattle.layout.proofs.Lays.{lays_as, laid_as}
use Rattle.tree.specs.At.{TypeAt}
use Rattle.layout.specs.Layout.{type_expr}
use Rattle.layout.proofs.Listing.{has_each, lays_each}
use Rattle.layout.proofs.TypeForms.{some_types, no_types_lem, types_laid, types_list}
use Rattle.layout.proofs.variants.variant.Goals as goal

pub ident-requires : goal.ident-requires
ident-requires c =
    record { accepted = c.requires.accepted; tree = c.requires.tree.1; held = c.requires.held.1; room = room_first _ c.requires.room }

pub returns-then-p-to : goal.returns-then-p-to
returns-then-p-to c =
    laid_as (cc)
    (let e = rw (c.past-to.ensures, c.second-p.ensures) at c.if-p-to.true in
    record { of = λ x a. lays_then ((lays_as c.requires.accepted c.ident.ensures).of x.1 a.1) (no_types_lem _ _ _ _ e x.2 a.3) })

pub last_end-last-requires : goal.last_end-last-requires
last_end-last-requires c =
    rw (c.past-to.ensures, c.second-p.ensures) (some_types _ _ _ _ (λ e. c.if-p-to.false (rw (c.past-to.ensures, c.second-p.ensures) e))
    c.requires.held.2.head.fits c.requires.tree.2 c.requires.held.3)

pub separated-requires : goal.separated-requires
separated-requires c =
    has_each TypeAt type_expr _ (λ p low high x h. h) (λ p x y r. r)
    (rw c.second-p.ensures (types_list c.requires.accepted
    (λ e. c.if-p-to.false (rw (c.past-to.ensures, c.second-p.ensures) e)) c.requires.held.2.head
    (rw (c.past-to.ensures, c.second-p.ensures) at c.last_end-last.ensures) c.requires.tree.2 c.requires.held.3
    (room_next c.requires.room ((lays_as c.requires.accepted c.ident.ensures).of c.requires.tree.1 c.requires.held.1))))

pub returns : goal.returns
returns c =
    laid_as (cc)
    (let l = rw c.second-p.ensures at (lays_each TypeAt type_expr _ (λ p low high x h. h) (λ p x y r. r) c.requires.accepted c.separated.ensures) in
    let e = rw (c.past-to.ensures, c.second-p.ensures) at c.last_end-last.ensures in
    record {
      of =
          λ x a. lays_then ((lays_as c.requires.accepted c.ident.ensures).of x.1 a.1)
          (types_laid (λ e. c.if-p-to.false (rw (c.past-to.ensures, c.second-p.ensures) e)) a.2.head e l x.2 a.3);
    })
