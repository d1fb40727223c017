-- What an accepted reading of steps was made of, and that it is accepted where it is made of this: both ways, for each part of the writer.
-- Assumes nothing.
use mathlib.Core.Path.{◌≡◌, ap, ◌∙◌}
use mathlib.Core.Bool.{true, false, cond, ◌&&◌}
use mathlib.Core.List.{List}
use Prim.Native.Nat.{ℕ, suc, ◌≤◌}
use lib.ListN.{length}
use lib.Dec.{leb, eqb}
use borrow.Author.Tests.{leb-true, le-leb}
use Rattle.laws.proofs.Booleans.{and_left, and_right}
use Rattle.image.specs.Grammar.{is_optional, bare, place, after, complete, row_under_of, kind_fits_of}
use Rattle.image.specs.Read.{Read, got, bad, bind}
use Rattle.image.specs.Write.{Plain, Plains, without, plainly, done, ◌next◌}
use Rattle.image.proofs.Got.{never, bind_got, passed, stayed}
use Rattle.steps.specs.Steps.{Step, comment_step, open_step, text_step, payload_step, absent_step, close_step}
use Rattle.steps.specs.Writer.{step_from, Opened, opened_by, opened_from, payload_from, at_child, children_from, record_from}

-- ---- children
-- what the step at `at` says there
abbrev turn : (ℕ → ℕ → Read Plain) → List ℕ → ℕ → ℕ → ℕ → Step → ℕ → Read Plains
turn one l n row at x past =
    at_child (cond (complete row) (got done past) (bad 16 at))
    (cond (is_optional (place row)) (bind (children_from one l n (after row) past) (λ ys end. got (without next ys) end)) (bad 16 at))
    (cond (eqb row 0) (bad 16 at)
    (bind (one (bare (place row)) at) (λ y behind. bind (children_from one l n (after row) behind) (λ ys end. got (y next ys) end))))
    (bad 16 at)
    x

-- the record is closed, the child is absent, or it is there
pub data Turn (one : ℕ → ℕ → Read Plain) (l : List ℕ) (n row at : ℕ) (ys : Plains) (end : ℕ) : Type 0 where
  closed : step_from l at ≡ got close_step end → complete row ≡ true → ys ≡ done → Turn one l n row at ys end
  absent : (past : ℕ) (zs : Plains) → step_from l at ≡ got absent_step past → is_optional (place row) ≡ true
      → children_from one l n (after row) past ≡ got zs end → ys ≡ without next zs → Turn one l n row at ys end
  opened : (kind from to past : ℕ) (y : Plain) (behind : ℕ) (zs : Plains) → step_from l at ≡ got (open_step kind from to) past → eqb row 0 ≡ false
      → one (bare (place row)) at ≡ got y behind → children_from one l n (after row) behind ≡ got zs end → ys ≡ y next zs
      → Turn one l n row at ys end

module _ (one : ℕ → ℕ → Read Plain) (l : List ℕ) (n row at : ℕ) (ys : Plains) (end : ℕ) where
  pub turned : children_from one l (suc n) row at ≡ got ys end → Turn one l n row at ys end
  unfolding children_from
  turned h =
      let s = bind_got (step_from l at) (turn one l n row at) ys end h in
      go s.0 s.1 s.2 s.3
    where
      go : (x : Step) (past : ℕ) → step_from l at ≡ got x past → turn one l n row at x past ≡ got ys end → Turn one l n row at ys end
      go (comment_step a b) past e h = never h
      go (text_step a b) past e h = never h
      go (payload_step a) past e h = never h
      go close_step past e h =
          let c = passed (complete row) _ 16 at ys end h in
          let same : past ≡ end = cc c.1 in
          closed (e ∙ ap (got close_step) same) c.0 (cc c.1)
      go absent_step past e h =
          let c = passed (is_optional (place row)) _ 16 at ys end h in
          let r = bind_got (children_from one l n (after row) past) _ ys end c.1 in
          absent past r.0 e c.0 (r.2 ∙ ap (got r.0) (cc r.3)) (cc r.3)
      go (open_step kind from to) past e h =
          let c = stayed (eqb row 0) _ 16 at ys end h in
          let y = bind_got (one (bare (place row)) at) _ ys end c.1 in
          let r = bind_got (children_from one l n (after row) y.1) _ ys end y.3 in
          opened kind from to past y.0 y.1 r.0 e c.0 y.2 (r.2 ∙ ap (got r.0) (cc r.3)) (cc r.3)

  pub turns : Turn one l n row at ys end → children_from one l (suc n) row at ≡ got ys end
  unfolding children_from
  turns (closed s c is) = rw (s, c, is)
  turns (absent past zs s c r is) = rw (s, c, r, is)
  turns (opened kind from to past y behind zs s c o r is) = rw (s, c, o, r, is)

-- ---- a record
pub record Opens (l : List ℕ) (left p at : ℕ) (x : Plain) (end : ℕ) : Type 0 where
  pub kind : ℕ
  pub from : ℕ
  pub to : ℕ
  pub past : ℕ
  pub payload : List ℕ
  pub first : ℕ
  pub children : Plains
  pub step : step_from l at ≡ got (open_step kind from to) past
  pub right : kind_fits_of p kind ≡ true
  pub order : from ≤ to
  pub pays : payload_from l p kind past ≡ got payload first
  pub within : children_from (record_from l left) l (suc (length l)) (row_under_of p kind) first ≡ got children end
  pub is : x ≡ plainly kind from to payload children

abbrev head : ℕ → ℕ → ℕ → Opened
head kind from to = record { kind = kind; from = from; to = to }

record Headed (l : List ℕ) (p at : ℕ) (h : Opened) (past : ℕ) : Type 0 where
  pub step : step_from l at ≡ got (open_step h.kind h.from h.to) past
  pub right : kind_fits_of p h.kind ≡ true
  pub order : leb h.from h.to ≡ true

headed : (l : List ℕ) (p at : ℕ) (h : Opened) (past : ℕ) → opened_from l p at ≡ got h past → Headed l p at h past
unfolding opened_from
headed l p at h past e =
    let s = bind_got (step_from l at) (opened_by p at) h past e in
    go s.0 s.1 s.2 s.3
  where
    go : (x : Step) (q : ℕ) → step_from l at ≡ got x q → opened_by p at x q ≡ got h past → Headed l p at h past
    go (comment_step a b) q s e = never e
    go (text_step a b) q s e = never e
    go (payload_step a) q s e = never e
    go close_step q s e = never e
    go absent_step q s e = never e
    go (open_step kind from to) q s e =
        let c = passed (kind_fits_of p kind && leb from to) _ 16 at h past e in
        let is : head kind from to ≡ h = cc c.1 in
        let same : q ≡ past = cc c.1 in
        rw (← is, ← same)
        (record { step = s; right = and_left (kind_fits_of p kind) (leb from to) c.0; order = and_right (kind_fits_of p kind) (leb from to) c.0 })

module _ (l : List ℕ) (left p at : ℕ) (x : Plain) (end : ℕ) where
  pub opens : record_from l (suc left) p at ≡ got x end → Opens l left p at x end
  unfolding record_from
  opens e =
      let h = bind_got (opened_from l p at) _ x end e in
      let y = bind_got (payload_from l p h.0.kind h.1) _ x end h.3 in
      let r = bind_got (children_from (record_from l left) l (suc (length l)) (row_under_of p h.0.kind) y.1) _ x end y.3 in
      let o = headed l p at h.0 h.1 h.2 in
      record {
        kind = h.0.kind;
        from = h.0.from;
        to = h.0.to;
        past = h.1;
        payload = y.0;
        first = y.1;
        children = r.0;
        step = o.step;
        right = o.right;
        order = leb-true h.0.from h.0.to o.order;
        pays = y.2;
        within = r.2 ∙ ap (got r.0) (cc r.3);
        is = cc r.3;
      }

  pub opened_as : Opens l left p at x end → record_from l (suc left) p at ≡ got x end
  unfolding record_from opened_from
  opened_as o = rw (o.step, o.right, le-leb o.from o.to o.order, o.pays, o.within, o.is)
