use native.Mathlib.Omega.{arith}
use Rattle.renderer.proofs.Halting.{resuming_start, rendered_all}
use Rattle.renderer.proofs.run.Renderer.render_all.Goals as goal

pub render-requires : goal.render-requires
render-requires c = resuming_start _ _ _ c.requires

pub returns : goal.returns
returns c = rendered_all _ _ _ _ _ _ _ _ c.requires (omega arith) c.render.ensures
