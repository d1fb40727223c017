-- A closed example: from `indent` 384 a call answers a state that 12 refuses.
-- Assumes nothing.
use mathlib.Core.Path.{refl}
use Rattle.image.specs.Bytes.{be32}
use Rattle.image.specs.Read.{header, source_fits}
use Rattle.rows.specs.View.{view_of, node_of, decode, nodes_at}
use Rattle.marks.specs.Marks.{marks_needed}
use Rattle.renderer_rules.specs.Renderer.{indent_more, indent_less, new_line, render_node, render_nodes}
use Rattle.renderer_rules.specs.Frames.{part_limit, wrap_at}
use Rattle.renderer_rules.specs.Check.{parts_fit, row_fits_of, first_wrong, wrong_row_of, places_fit, places_fit_by, wrong_place_by}
use Rattle.renderer_rules.specs.Stops as stops
use Rattle.renderer_rules.specs.Listed.{can_close_all}
use Rattle.stop_facts.specs.HandedOn.{BoundIsPassed}

pub bound_is_passed : BoundIsPassed
unfolding stops.ahead stops.behind stops.rest stops.meaning stops.within stops.entered stops.listed_rows part_limit wrap_at view_of node_of decode nodes_at
    indent_more indent_less new_line render_node render_nodes parts_fit row_fits_of first_wrong wrong_row_of places_fit places_fit_by wrong_place_by
    can_close_all marks_needed be32 header source_fits
bound_is_passed = (refl, refl)
