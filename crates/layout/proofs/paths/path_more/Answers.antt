use mathlib.Core.Path.{◌∙◌}
use native.Mathlib.Omega.{arith}
use Rattle.layout.proofs.IdentLaws.{idents_first, first_has, rest_has, idents_none, idents_more, idents_in}
use Rattle.layout.proofs.Lays.{lays_as, laid_all}
use Rattle.layout.proofs.Walking.{next_part, none_left}
use Rattle.layout.proofs.paths.path_more.Goals as goal

pub records-at-items-requires : goal.records-at-items-requires
records-at-items-requires c = idents_in _ _ _ _ _ c.requires.inside c.requires.held

pub path_next-requires : goal.path_next-requires
path_next-requires c =
    let n = next_part c.loop-at.invariant c.in-Some.ensures.steps in
    first_has _ (idents_first _ n.before n.has)

pub loop-at-preserved : goal.loop-at-preserved
loop-at-preserved c =
    let n = next_part c.loop-at.invariant c.in-Some.ensures.steps in
    let laid = lays_as c.requires.accepted c.path_next.ensures in
    record {
      at = _;
      far = omega (arith, n.far);
      left_is = n.more_is;
      has = rest_has _ (idents_first _ n.before n.has) laid;
      finishes = λ x e l. n.finishes x e (idents_more _ n.before laid l);
      same = c.path_next.ensures.same ∙ c.loop-at.invariant.same;
    }

pub returns : goal.returns
returns c = laid_all (cc) (c.loop-at.invariant.finishes _ _ (idents_none _ (none_left c.loop-at.invariant c.in-None.ensures.steps.0)))
