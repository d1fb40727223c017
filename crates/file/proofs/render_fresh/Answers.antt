use Rattle.render_call.proofs.Opening.{listed_none}
use Rattle.file.proofs.render_fresh.Goals as goal

pub returns : goal.returns
returns c listed =
    let e = c.default.ensures in
    λ i. record {
      pen = record { indent = e.0.0 i; next_indent = e.0.1.0 i; column = record { 0 = e.0.1.1 i } };
      in_use = e.1.0 i;
      row = e.1.1.0 i;
      width = e.1.1.1.0 i;
      rule = e.1.1.1.1.0 i;
      listed = listed_none listed c.default.result.listed_rows e.1.1.1.1.1 i;
    }
