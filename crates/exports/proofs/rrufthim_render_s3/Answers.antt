use Rattle.exports.proofs.Listed.{few_listed, renders}
use Rattle.exports.proofs.rrufthim_render_s3.Goals as goal

pub put_listed-requires : goal.put_listed-requires
put_listed-requires c = record { few = few_listed _ _ _ _ _ _ _ _ _ _ _ _ _ _ c.in-Ok.is c.render_call-written.ensures }

pub returns-in-Ok : goal.returns-in-Ok
returns-in-Ok c =
    renders _ _ _ _ _ _ _ _ _ _ _ _ _ _ _ _ _ _ _ _ c.render_state-from.ensures c.render_list-listed.ensures c.render_args-to.ensures c.in-Ok.is
    c.render_call-written.ensures c.map.ensures.cases c.put_answer.ensures c.put_listed.ensures
