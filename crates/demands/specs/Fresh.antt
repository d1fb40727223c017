-- The two states from which a caller starts: "Fresh is all 0."
use Rattle.std.specs.Prelude.{false}
use Rattle.layout_call.specs.declared.LayoutState.{LayoutState}
use Rattle.render_call.specs.declared.RenderState.{RenderState}

abbrev pub fresh_layout : LayoutState
fresh_layout = record { begun = false; closed = false; declaration = 0; row = 0; number = 0; placed = 0; position = 0; mode = 0; rule = 0 }

abbrev pub fresh_render : RenderState
fresh_render = record {
  pen = record { indent = 0; next_indent = 0; column = record { 0 = 0 } };
  in_use = 0;
  row = 0;
  width = record { 0 = 0 };
  rule = 0;
  listed_rows = 0;
}
