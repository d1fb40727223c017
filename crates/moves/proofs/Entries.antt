-- What the two moves answer, and what they leave in the output.
-- Assumes nothing.
use mathlib.Core.Path.{◌≡◌, refl, sym, ap, ◌∙◌}
use mathlib.Core.Bool.{true, false, ◌||◌}
use mathlib.Core.List.{List, [], ◌∷◌}
use Prim.Native.Nat.{ℕ, ◌+◌, ◌≤◌, ◌<◌}
use native.Mathlib.Omega.{arith}
use lib.Dec.{ltb}
use lib.ListN.{length}
use lib.Seq.{sets}
use borrow.Author.Tests.{lt-ltb, le-ltb}
use Rattle.std.specs.Prelude.{Option, None, Some}
use Rattle.refusals.specs.Refusals.{Refusal, refuse_at}
use Rattle.refusals.specs.Answers.{refused, accepted, answer_by}
use Rattle.image.specs.Limits.{MAX_BODY}
use Rattle.image.specs.Read.{Read, got, bad, Image, read_version, document_of, outcome}
use Rattle.image.specs.declared.Document.{Document}
use Rattle.image.specs.Write.{Plain}
use Rattle.tree.specs.Contents.{Contents, image_of, contents_of}
use Rattle.moves.specs.Moves.{texts_where, head_of, forward_of, back_of}
use Rattle.moves.specs.Ways.{version_from, is_faulty, image_due}
use Rattle.moves.specs.Standing.{TreeAt, FirstFault, ImageThere, PutsImage, tree_due}
use Rattle.moves.specs.Moved.{forward_answer, forward_output, back_answer, back_output}
use Rattle.moves.specs.declared.way.Way.{Way}
use Rattle.moves.specs.declared.way.Way.TheVariants as way
use Rattle.moves.proofs.Turned.{turned_forward, turned_back}
use Rattle.moves.proofs.Imaged.{read_there}

-- ---- the check
module _ (w : Way) (s b : List ℕ) where
  -- what was read, of an image that the reader accepts
  pub record Accepted (d : Document) : Type 0 where
    pub image : Image
    pub end : ℕ
    pub reads : read_version (version_from w) false s b ≡ got image end
    pub is : document_of image ≡ d

  pub was_read : (d : Document) → accepted d ≡ outcome (read_version (version_from w) false s b) → Accepted d
  was_read d h = go (read_version (version_from w) false s b) refl h
    where
      go : (r : Read Image) → read_version (version_from w) false s b ≡ r → accepted d ≡ outcome r → Accepted d
      go (got i end) e h = record { image = i; end = end; reads = e; is = cc }
      go (bad m p) e h = let z : ◌≡◌ {A = ℕ} 0 1 = cc in absurd (omega arith)

  pub tree_at : (d : Document) → accepted d ≡ outcome (read_version (version_from w) false s b) → TreeAt w b d.tree
  tree_at d h =
      let a = was_read d h in
      let t = read_there w s b a.image a.end a.reads in
      let place : a.image.at ≡ d.tree = ap (λ (x : Document). x.tree) a.is in
      record { tree = a.image.tree; stands = rw place at t.stands; short = t.short }

  pub check_refused : (x : Refusal) → refused x ≡ outcome (read_version (version_from w) false s b) → refused x ≡ tree_due w s b
  check_refused x h = go (read_version (version_from w) false s b) refl h
    where
      go : (r : Read Image) → read_version (version_from w) false s b ≡ r → refused x ≡ outcome r → refused x ≡ tree_due w s b
      go (got i end) e h = let z : ◌≡◌ {A = ℕ} 0 1 = cc in absurd (omega arith)
      go (bad m p) e h = let same : x ≡ record { number = m; place = p } = cc in rw e (ap refused same)

  module _ (d : Document) (h : accepted d ≡ outcome (read_version (version_from w) false s b)) where
    found : (r : Option ℕ) → FirstFault w b d.tree r → answer_by (refuse_at r 21) d.tree ≡ tree_due w s b
    found r f =
        let a = was_read d h in
        let t = read_there w s b a.image a.end a.reads in
        let place : a.image.at ≡ d.tree = ap (λ (x : Document). x.tree) a.is in
        let same = f a.image.tree (rw place at t.stands) in
        rw (a.reads, place, same)

    pub check_found : (p : ℕ) → FirstFault w b d.tree (Some p) → refused (record { number = 21; place = p }) ≡ tree_due w s b
    check_found p f = found (Some p) f

    pub check_whole : FirstFault w b d.tree None → accepted d.tree ≡ tree_due w s b
    check_whole f = found None f

  -- an image that may be moved
  pub record Passed (at : ℕ) : Type 0 where
    pub image : Image
    pub end : ℕ
    pub reads : read_version (version_from w) false s b ≡ got image end
    pub place : image.at ≡ at
    pub clear : texts_where (is_faulty w) b false image.tree ≡ []

  pub passed_by : (at : ℕ) → accepted at ≡ tree_due w s b → Passed at
  passed_by at h = go (read_version (version_from w) false s b) refl h
    where
      go : (r : Read Image) → read_version (version_from w) false s b ≡ r → accepted at ≡ tree_due w s b → Passed at
      go (bad m p) e h = let k = rw e at h in let z : ◌≡◌ {A = ℕ} 0 1 = cc in absurd (omega arith)
      go (got i end) e h = by (texts_where (is_faulty w) b false i.tree) refl (rw e at h)
        where
          by : (l : List ℕ) → texts_where (is_faulty w) b false i.tree ≡ l
              → accepted at ≡ answer_by (refuse_at (head_of (texts_where (is_faulty w) b false i.tree)) 21) i.at → Passed at
          by [] f k = let j = rw f at k in record { image = i; end = end; reads = e; place = cc; clear = f }
          by (x ∷ xs) f k = let j = rw f at k in let z : ◌≡◌ {A = ℕ} 0 1 = cc in absurd (omega arith)

  pub image_there : (at : ℕ) → accepted at ≡ tree_due w s b → ImageThere w b at
  image_there at h =
      let p = passed_by at h in
      record { source = s; image = p.image; end = p.end; reads = p.reads; place = p.place; clear = p.clear }

-- ---- the images
due_forward : (c : Contents) → image_due way.Forward c ≡ forward_of c
due_forward c = ap (λ (x : Plain). image_of 2 (record { comments = c.comments; tree = x })) (turned_forward false c.tree)

due_back : (c : Contents) → image_due way.Back c ≡ back_of c
due_back c = ap (λ (x : Plain). image_of 1 (record { comments = c.comments; tree = x })) (turned_back false c.tree)

-- ---- forward
module _ (s b out : List ℕ) where
  abbrev pub Forward : Rattle.refusals.specs.Answers.Answer ℕ → List ℕ → Type 0
  Forward a o = (a ≡ forward_answer s b (length out)) × (o ≡ forward_output s b out)

  pub forward_refused : (x : Refusal) → refused x ≡ tree_due way.Forward s b → Forward (refused x) out
  forward_refused x h = go (read_version 1 false s b) refl h
    where
      go : (r : Read Image) → read_version 1 false s b ≡ r → refused x ≡ tree_due way.Forward s b → Forward (refused x) out
      go (bad m p) e h = let k = rw e at h in (rw e k, rw e)
      go (got i end) e h = by (texts_where (is_faulty way.Forward) b false i.tree) refl (rw e at h)
        where
          by : (l : List ℕ) → texts_where (is_faulty way.Forward) b false i.tree ≡ l
              → refused x ≡ answer_by (refuse_at (head_of (texts_where (is_faulty way.Forward) b false i.tree)) 21) i.at → Forward (refused x) out
          by [] f k = let j = rw f at k in let z : ◌≡◌ {A = ℕ} 0 1 = cc in absurd (omega arith)
          by (y ∷ ys) f k = let j = rw f at k in (rw (e, f) j, rw (e, f))

  module _ (at : ℕ) (h : accepted at ≡ tree_due way.Forward s b) (bytes : ℕ) (u v : List ℕ) (p : PutsImage way.Forward b u bytes v) where
    a : Passed way.Forward s b at
    a = passed_by way.Forward s b at h

    size : length (forward_of (contents_of b a.image)) ≡ bytes
    size =
        let n = (p s a.image a.end a.reads).place in
        sym (ap length (due_forward (contents_of b a.image))) ∙ omega (arith, n)

    pub forward_long : length out < bytes → Forward (refused (record { number = 17; place = bytes })) out
    forward_long k =
        let t = lt-ltb (length out) bytes k in
        (rw (a.reads, a.clear, size, t), rw (a.reads, a.clear, size, t))

    pub forward_whole : (r : ℕ) (o : List ℕ) → bytes ≤ length out → PutsImage way.Forward b out r o → Forward (accepted bytes) o
    forward_whole r o k q =
        let t = le-ltb (length out) bytes k in
        let put = (q s a.image a.end a.reads).output ∙ ap (sets out 0) (due_forward (contents_of b a.image)) in
        (rw (a.reads, a.clear, size, t), put ∙ rw (a.reads, a.clear, size, t))

-- ---- back
module _ (s b out : List ℕ) where
  abbrev pub Back : Rattle.refusals.specs.Answers.Answer ℕ → List ℕ → Type 0
  Back a o = (a ≡ back_answer s b (length out)) × (o ≡ back_output s b out)

  pub back_refused : (x : Refusal) → refused x ≡ tree_due way.Back s b → Back (refused x) out
  back_refused x h = go (read_version 2 false s b) refl h
    where
      go : (r : Read Image) → read_version 2 false s b ≡ r → refused x ≡ tree_due way.Back s b → Back (refused x) out
      go (bad m p) e h = let k = rw e at h in (rw e k, rw e)
      go (got i end) e h = by (texts_where (is_faulty way.Back) b false i.tree) refl (rw e at h)
        where
          by : (l : List ℕ) → texts_where (is_faulty way.Back) b false i.tree ≡ l
              → refused x ≡ answer_by (refuse_at (head_of (texts_where (is_faulty way.Back) b false i.tree)) 21) i.at → Back (refused x) out
          by [] f k = let j = rw f at k in let z : ◌≡◌ {A = ℕ} 0 1 = cc in absurd (omega arith)
          by (y ∷ ys) f k = let j = rw f at k in (rw (e, f) j, rw (e, f))

  module _ (at : ℕ) (h : accepted at ≡ tree_due way.Back s b) (bytes : ℕ) (u v : List ℕ) (p : PutsImage way.Back b u bytes v) where
    a-back : Passed way.Back s b at
    a-back = passed_by way.Back s b at h

    size-back : length (back_of (contents_of b a-back.image)) ≡ bytes
    size-back =
        let n = (p s a-back.image a-back.end a-back.reads).place in
        sym (ap length (due_back (contents_of b a-back.image))) ∙ omega (arith, n)

    pub back_long : (ltb (5 + MAX_BODY) bytes || ltb (length out) bytes) ≡ true → Back (refused (record { number = 17; place = bytes })) out
    back_long t = (rw (a-back.reads, a-back.clear, size-back, t), rw (a-back.reads, a-back.clear, size-back, t))

    pub back_whole : (r : ℕ) (o : List ℕ) → bytes ≤ 5 + MAX_BODY → bytes ≤ length out → PutsImage way.Back b out r o → Back (accepted bytes) o
    back_whole r o low k q =
        let t = le-ltb (length out) bytes k in
        let z = le-ltb (5 + MAX_BODY) bytes low in
        let put = (q s a-back.image a-back.end a-back.reads).output ∙ ap (sets out 0) (due_back (contents_of b a-back.image)) in
        (rw (a-back.reads, a-back.clear, size-back, z, t), put ∙ rw (a-back.reads, a-back.clear, size-back, z, t))

-- either of the two tests of room
pub no_body : (out bytes : ℕ) → 5 + MAX_BODY < bytes → (ltb (5 + MAX_BODY) bytes || ltb out bytes) ≡ true
no_body out bytes h = rw (lt-ltb (5 + MAX_BODY) bytes h)

pub no_room : (out bytes : ℕ) → bytes ≤ 5 + MAX_BODY → out < bytes → (ltb (5 + MAX_BODY) bytes || ltb out bytes) ≡ true
no_room out bytes l h = rw (le-ltb (5 + MAX_BODY) bytes l, lt-ltb out bytes h)
