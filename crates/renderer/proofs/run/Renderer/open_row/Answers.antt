use native.Mathlib.Omega.{arith}
use mathlib.Core.Path.{refl, sym, ap, ◌∙◌}
use Rattle.rows.specs.Kinds.{number_of}
use Rattle.rows.specs.declared.kinds.Kind.TheVariants.{Group, IfWrap, Call}
use Rattle.rows.proofs.KindOf.{not_number}
use Rattle.renderer.proofs.Followed.{group_follows, call_follows, if_follows}
use Rattle.renderer.proofs.Stepped.{enters, group_range, callee_range, argument_range, kind_low, indents_low, indents_follow}
use Rattle.renderer.proofs.Turned.{turned, turned_unmarked}
use Rattle.renderer.proofs.run.Renderer.open_row.Goals as goal

pub enter_group-requires : goal.enter_group-requires
enter_group-requires c = (
  enters _ _ _ _ _ _ _ _ _ c.requires.opens.entering,
  group_range _ _ _ _ _ _ _ _ _ c.requires.opens.entering (c.requires.kind ∙ ap number_of c.in-Group.is),
)

pub returns-in-Group : goal.returns-in-Group
returns-in-Group c =
    λ s i. turned c.enter_group.ensures.unwritten
    (group_follows _ s i _ _ _ _ _ _ _ (c.requires.kind ∙ ap number_of c.in-Group.is) c.enter_group.ensures.opened)

pub enter_call-requires : goal.enter_call-requires
enter_call-requires c =
    record {
      enters = enters _ _ _ _ _ _ _ _ _ c.requires.opens.entering;
      callee = callee_range _ _ _ _ _ _ _ _ _ c.requires.opens.entering (c.requires.kind ∙ ap number_of c.in-Call.is);
      arguments = argument_range _ _ _ _ _ _ _ _ _ c.requires.opens.entering (c.requires.kind ∙ ap number_of c.in-Call.is);
    }

pub returns-in-Call : goal.returns-in-Call
returns-in-Call c =
    λ s i. turned c.enter_call.ensures.unwritten
    (call_follows _ s i _ _ _ _ _ _ _ (c.requires.kind ∙ ap number_of c.in-Call.is) c.enter_call.ensures.opened)

pub enter_if-requires : goal.enter_if-requires
enter_if-requires c = enters _ _ _ _ _ _ _ _ _ c.requires.opens.entering

pub returns-in-IfWrap : goal.returns-in-IfWrap
returns-in-IfWrap c =
    λ s i. turned_unmarked c.enter_if.ensures.unmarked
    (if_follows _ s i _ _ _ _ _ _ _ (c.requires.kind ∙ ap number_of c.in-IfWrap.is) c.requires.wrap c.enter_if.ensures.run)

pub enter_indent-requires : goal.enter_indent-requires
enter_indent-requires c =
    let e = enters _ _ _ _ _ _ _ _ _ c.requires.opens.entering in
    let l = kind_low _ _ _ _ _ _ _ _ _ c.requires.opens.entering in
    let call = not_number Call refl c.in_default.not-Call in
    let if_wrap = not_number IfWrap refl c.in_default.not-IfWrap in
    record {
      depth = e.depth;
      few = e.few;
      indent = e.indent;
      kind = (
        omega (arith, not_number Group refl c.in_default.not-Group),
        indents_low _ (omega (arith, c.requires.kind)) c.requires.parts call if_wrap,
      );
    }

pub returns-in_default : goal.returns-in_default
returns-in_default c =
    let l = kind_low _ _ _ _ _ _ _ _ _ c.requires.opens.entering in
    let call = not_number Call refl c.in_default.not-Call in
    let if_wrap = not_number IfWrap refl c.in_default.not-IfWrap in
    λ s i. turned_unmarked c.enter_indent.ensures.unmarked
    (indents_follow _ s i _ _ 0 _ _ _ _ _ _ (sym c.requires.kind) (not_number Group refl c.in_default.not-Group)
    (indents_low _ (omega (arith, c.requires.kind)) c.requires.parts call if_wrap) c.requires.wrap c.enter_indent.ensures.run)
