-- The marked edges hold: antt computes each from its bytes.
-- Assumes nothing.
use mathlib.Core.Path.{refl, ap, ◌∙◌}
use mathlib.Core.Bool.{Bool, cond}
use mathlib.Core.List.{[], ◌++◌, append-nil, append_assoc}
use native.Mathlib.Omega.{arith}
use borrow.Author.Tests.{lt-ltb, le-ltb}
use Rattle.text.specs.Newlines.{is_range, count_newlines, newline_places}
use Rattle.image.specs.Read.{header, comment_fits, comments_from, comments as comment_list, shape, opens, children_at, skips, record_at, tree_at, read_tree}
use Rattle.image.specs.Read.{read_image, source_fits, read_with, width_bytes, stored_width}
use Rattle.image.specs.Bytes.{be16, be32}
use Rattle.image.specs.Grammar.{row_of, row_under_of, kind_fits_of, payload_fits, first_child}
use Rattle.image.specs.Write.{written}
use Rattle.text.specs.Utf8.{within, row_in, followed, sequence, run as runs, prefix, well_formed, boundary}
use Rattle.tree.specs.Records.{views, syntax_tree}
use Rattle.rows.specs.Ascii.{bytes}
use Rattle.rows.specs.Node.{must_wrap, must_wraps, width, widths, join}
use Rattle.rows.specs.Rows.{size, sizes, rows_of, rows}
use Rattle.rows.specs.View.{view_of, node_of, decode, nodes_at}
use Rattle.tree.specs.CommentList.{comments_of, pairs_at}
use Rattle.rows.specs.Words.{place_in, word, joined, words}
use Rattle.acts.specs.Act.{◌⨟◌, ◌⨟?◌, ◌⨟!◌, grouped, indented as indents}
use Rattle.text.specs.Utf8.{char_at, decoded, scalar, char_before, ending, ends}
use Rattle.text.specs.Space.{something, seek, one_of, trim_end, trim}
use Rattle.comments.specs.Comments as comments
use Rattle.layout.specs.Layout.{shebang_rule, declaration, declares, opening, type_expr, type_form, type_args, path_rule, path_more, expr_with_precedence}
use Rattle.layout.specs.Layout.{literal_rule}
use Rattle.renderer_rules.specs.Renderer.{push_str, at_column, new_line, margin, comment, text, virtual_column}
use Rattle.renderer_rules.specs.Renderer.{insert, indent_more, indent_less, next_indent_more}
use Rattle.renderer_rules.specs.Renderer.{next_indent_less, wraps, group_wraps, trailing_call, callee_wraps, render_node, render_nodes}
use Rattle.rows.specs.Texts.{origin_text}
use Rattle.renderer_rules.specs.Page.{text_bytes}
use Rattle.renderer_rules.specs.Stops as stops
use Rattle.renderer_rules.specs.Frames.{part_limit, wrap_at}
use Rattle.renderer_rules.specs.Listed.{can_close_all}
use Rattle.renderer_rules.specs.Check.{reaches, parts_fit, row_fits_of, first_wrong, wrong_row_of, places_fit, places_fit_by, wrong_place_by}
use Rattle.widths.specs.Rules.{edition_of, columns_by}
use Rattle.node_widths.specs.Summed.{summed, summed_all, str_columns}
use Rattle.node_widths.specs.Measured.{ascii_columns}
use Rattle.marks.specs.Marks.{marks_needed}
use Rattle.whole_run.specs.Edges.{newline, EdgesHold, WidthsHold, EmptyLineHolds}

pub edges_hold : EdgesHold
unfolding stops.ahead stops.behind stops.rest stops.meaning stops.entered stops.listed_rows part_limit wrap_at can_close_all
    header comment_fits comments_from comment_list shape opens children_at skips record_at tree_at read_tree read_image source_fits
    read_with width_bytes stored_width be16 be32 row_of
    row_under_of kind_fits_of payload_fits first_child written within row_in followed sequence runs prefix well_formed boundary is_range views syntax_tree bytes
    must_wrap must_wraps width widths size sizes rows_of rows view_of node_of decode nodes_at comments_of pairs_at push_str at_column
    new_line margin comment text
    virtual_column insert indent_more indent_less next_indent_more next_indent_less wraps group_wraps trailing_call callee_wraps render_node
    render_nodes origin_text
    text_bytes
    reaches parts_fit row_fits_of first_wrong wrong_row_of places_fit places_fit_by wrong_place_by summed summed_all str_columns
    ascii_columns columns_by edition_of
    marks_needed place_in word
    joined words ◌⨟◌ ◌⨟?◌ ◌⨟!◌ join grouped indents count_newlines newline_places char_at decoded scalar something seek one_of trim_end trim char_before ending
    ends shebang_rule declaration declares
    opening type_expr type_form type_args path_rule path_more expr_with_precedence literal_rule comments.nth comments.newlines comments.ignore_newlines
    comments.pop_comment comments.pop_comments comments.pop_whitespace comments.pop_trailing_comment
edges_hold = refl

pub widths_hold : WidthsHold
unfolding stops.ahead stops.behind stops.rest stops.meaning stops.entered stops.listed_rows part_limit wrap_at can_close_all
    header source_fits be32 must_wrap must_wraps width widths size sizes rows_of rows view_of node_of decode nodes_at push_str
    at_column new_line margin text
    virtual_column insert wraps group_wraps render_node render_nodes origin_text text_bytes reaches parts_fit row_fits_of first_wrong
    wrong_row_of places_fit places_fit_by wrong_place_by str_columns ascii_columns columns_by edition_of
    marks_needed
widths_hold = record {
  least = record { stays = refl; wraps = refl };
  print_shop = record { stays = refl; wraps = refl };
  most = record { stays = refl; wraps = refl };
}

pub empty_line_holds : EmptyLineHolds
unfolding render_node push_str new_line
empty_line_holds = record {
  at_start =
      λ c s b w r e.
      ap (λ (d : Bool). (r.buf ++ newline) ++ cond d newline []) (le-ltb 0 r.pen.column.0 (omega (arith, e))) ∙ append-nil (r.buf ++ newline);
  elsewhere =
      λ c s b w r h.
      ap (λ (d : Bool). (r.buf ++ newline) ++ cond d newline []) (lt-ltb 0 r.pen.column.0 h) ∙ append_assoc r.buf newline newline;
}
