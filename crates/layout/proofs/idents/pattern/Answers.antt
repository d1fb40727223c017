use Rattle.layout.specs.Layout as rules
use mathlib.Core.Path.{◌≡◌}
use Prim.Native.Nat.{◌+◌}
use Rattle.image.specs.Bytes.{be32}
use Rattle.image.specs.Read.{stop_at}
use Rattle.layout.specs.declared.kinds.Pattern.TheVariants as patterns
use Rattle.layout.proofs.KindTests.{is_pattern, other_pattern}
use Rattle.acts.proofs.Laws.{lays}
use Rattle.layout.proofs.Lays.{lays_as, laid_as}
use Rattle.layout.proofs.Places.{absent, present, within, ident_whole}
use Rattle.tree.specs.At.{IdentAt}
use Rattle.layout.proofs.Listing.{has_each, lays_each}
use Rattle.layout.proofs.Optionals.{pattern_has_kind, fields_list, pattern_parts, any_room, any_pattern, bare_pattern, full_pattern, fields_whole}
use Rattle.layout.proofs.idents.pattern.Goals as goal

pub read-requires : goal.read-requires
read-requires c = pattern_has_kind _ _ _ c.requires.tree c.requires.held

pub word-requires : goal.word-requires
word-requires c = any_room (is_pattern _ patterns.Underscore c.read.ensures c.eq.ensures c.if-eq.true) c.requires

pub returns-then-eq : goal.returns-then-eq
returns-then-eq c =
    laid_as (cc) (any_pattern (is_pattern _ patterns.Underscore c.read.ensures c.eq.ensures c.if-eq.true) (lays c.word.ensures.laid))

pub second-p-requires : goal.second-p-requires
second-p-requires c =
    let w = pattern_parts (other_pattern _ patterns.Underscore c.read.ensures c.eq.ensures c.if-eq.false) c.requires in
    within (ident_whole w.name.held)

pub ident-requires : goal.ident-requires
ident-requires c =
    (pattern_parts (other_pattern _ patterns.Underscore c.read.ensures c.eq.ensures c.if-eq.false) c.requires).name

pub is_absent-requires : goal.is_absent-requires
is_absent-requires c =
    let w = pattern_parts (other_pattern _ patterns.Underscore c.read.ensures c.eq.ensures c.if-eq.false) c.requires in
    rw c.second-p.ensures w.fields

pub returns-then-is_absent : goal.returns-then-is_absent
returns-then-is_absent c =
    laid_as (cc)
    (let e : be32 c.args.parsed.now.image.now (stop_at c.args.parsed.now.image.now (c.args.at + 13)) ≡ 0 =
    absent (rw c.second-p.ensures at c.is_absent.ensures) c.if-is_absent.true
    in
    bare_pattern (other_pattern _ patterns.Underscore c.read.ensures c.eq.ensures c.if-eq.false) e (lays_as c.requires.accepted c.ident.ensures))

pub end-requires : goal.end-requires
end-requires c =
    let f : be32 c.args.parsed.now.image.now (stop_at c.args.parsed.now.image.now (c.args.at + 13)) ≡ 0 → ⊥ =
    present (rw c.second-p.ensures at c.is_absent.ensures) c.if-is_absent.false
    in
    rw c.second-p.ensures (fields_whole (other_pattern _ patterns.Underscore c.read.ensures c.eq.ensures c.if-eq.false) f c.requires)

pub separated-requires : goal.separated-requires
separated-requires c =
    let f : be32 c.args.parsed.now.image.now (stop_at c.args.parsed.now.image.now (c.args.at + 13)) ≡ 0 → ⊥ =
    present (rw c.second-p.ensures at c.is_absent.ensures) c.if-is_absent.false
    in
    has_each IdentAt rules.ident _ (λ p low high x h. h) (λ p x y r. r)
    (rw (c.end.ensures, c.second-p.ensures)
    (fields_list (other_pattern _ patterns.Underscore c.read.ensures c.eq.ensures c.if-eq.false) f (lays_as c.requires.accepted c.ident.ensures) c.requires))

pub returns : goal.returns
returns c =
    laid_as (cc)
    (let f : be32 c.args.parsed.now.image.now (stop_at c.args.parsed.now.image.now (c.args.at + 13)) ≡ 0 → ⊥ =
    present (rw c.second-p.ensures at c.is_absent.ensures) c.if-is_absent.false
    in
    full_pattern (other_pattern _ patterns.Underscore c.read.ensures c.eq.ensures c.if-eq.false) f (lays_as c.requires.accepted c.ident.ensures)
    (rw (c.end.ensures, c.second-p.ensures) at
    (lays_each IdentAt rules.ident _ (λ p low high x h. h) (λ p x y r. r) c.requires.accepted c.separated.ensures)))
