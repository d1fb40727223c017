-- What an accepted source and image give a layout call: the tree, its declarations one after the other, and room for the rows.
-- Assumes nothing.
use mathlib.Core.Path.{◌≡◌, refl, sym, ap, subst, ◌∙◌}
use mathlib.Core.Bool.{Bool, true, false, not}
use mathlib.Core.List.{List, [], ◌∷◌, ◌++◌}
use Prim.Native.Nat.{ℕ, zero, suc, ◌+◌, ◌-◌, ◌*◌, ◌≤◌, ◌<◌}
use native.Mathlib.Omega.{arith}
use lib.ListN.{length, take, drop, take-append-drop}
use lib.Dec.{ltb, eqb}
use borrow.Author.Tests.{lt-ltb, le-ltb, ltb-true, ltb-false}
use Rattle.std.specs.Prelude.{slice_get, unwrap_or}
use Rattle.image.specs.Read.{stop_at, Accepts}
use Rattle.image.specs.declared.Document.{Document}
use Rattle.image.proofs.Accepted.{accepted}
use Rattle.ast.specs.Syntax.{Declaration}
use Rattle.tree.specs.At.{DeclarationsAt}
use Rattle.tree.specs.Walk.{walked}
use Rattle.tree.proofs.Walk.{walked_within, declarations_between}
use Rattle.acts.specs.Laid.{st, Room}
use Rattle.acts.specs.Does.{Does}
use Rattle.acts.specs.declared.Cursor.{Cursor}
use Rattle.acts.specs.declared.State.{State}
use Rattle.tree.specs.CommentList.{comments_of}
use Rattle.comments.specs.Listed.{given, Listed}
use Rattle.comments.specs.Parsed.{given_by}
use Rattle.comments.specs.AllIn.{AllIn, offsets_from}
use Rattle.comments.specs.declared.parsed.Parsed.{Parsed}
use Rattle.comments.proofs.Accepted.{accepted_listed}
use Rattle.comments.proofs.Fronts.{count_of}
use Rattle.comments.proofs.Offsets.{first_offset, no_offset}
use Rattle.layout.specs.Promises.{Readable, HasIn, LaidAs, HasAllIn, LaidAll}
use Rattle.comments.specs.Record.{InImage}
use Rattle.layout.specs.Forms.{MaybeIdentAt, declarations_from}
use Rattle.layout.specs.Layout.{shebang_rule, declarations_rule}
use Rattle.layout.proofs.DeclarationForms.{declarations_in}
use Rattle.layout_facts.specs.Sound.{BYTE_GIVES, ROW_TAKES}
use Rattle.layout_facts.specs.Accepted.{Stands}
use Rattle.rows.specs.Rows.{sizes}
use Rattle.layout_facts.proofs.Limits.{call_room, few_rows as few}
use Rattle.whole_run.specs.Parts.{keeps_waiting}
use Rattle.whole_run.specs.Built.{tree, declared}
use Rattle.whole_run.proofs.Limits.{standing}
use Rattle.layout_call.specs.Steps.{Goes, start_of, from_of, call_act}
use Rattle.layout_call.specs.declared.LayoutState.{LayoutState}
use Rattle.layout_call.specs.declared.LayoutArgs.{LayoutArgs}

module _ {s b : List ℕ} {d : Document} (a : Accepts s b d) where
  abbrev n : ℕ
  n = d.comments

  abbrev at : ℕ
  at = d.tree

  pub stands : Stands (given s b) (tree s b) at
  stands = standing s b d a

  pub comments_count : length (comments_of b) ≡ n
  comments_count = count_of b ∙ sym (accepted s b d a).root.count

  pub source_short : length s ≤ 65536
  source_short = (accepted s b d a).short

  pub few_comments : n ≤ 8192
  few_comments = omega (arith, comments_count, stands.count)

  pub comment_list : Listed s b
  comment_list = accepted_listed s b d a

  ready : Readable b
  ready = record { small = stands.small }

  pub has_shebang : {c : Cursor} → Room (shebang_rule (given s b) (tree s b).shebang) c → HasIn MaybeIdentAt shebang_rule s b (at + 13) c
  has_shebang room = record { accepted = ready; tree = (tree s b).shebang; held = stands.tree.shebang; room = room }

  -- ---- the declarations
  abbrev ds : List Declaration
  ds = declared s b

  all : DeclarationsAt s b ds (stop_at b (at + 13)) (stop_at b at)
  all = stands.tree.declarations

  pub first_in : InImage b (at + 13)
  first_in = record { fits = omega (arith, stands.tree.inside.least, stands.tree.end) }

  pub tree_in : InImage b at
  tree_in = record { fits = omega (arith, stands.tree.end) }

  some_left : (xs : List Declaration) (p end : ℕ) → DeclarationsAt s b xs p end → p < end → 0 < length xs
  unfolding DeclarationsAt
  some_left [] p end h l = absurd (omega (arith, h.same))
  some_left (x ∷ xs) p end h l = omega arith

  none_left : (xs : List Declaration) (p end : ℕ) → DeclarationsAt s b xs p end → end ≤ p → length xs ≡ 0
  unfolding DeclarationsAt
  none_left [] p end h l = refl
  none_left (x ∷ xs) p end h l = absurd (omega (arith, h.1.least))

  -- each takes up bytes of the image
  counted : (xs : List Declaration) (p end : ℕ) → DeclarationsAt s b xs p end → p + length xs ≤ end
  unfolding DeclarationsAt
  counted [] p end h = omega (arith, h.same)
  counted (x ∷ xs) p end h = omega (arith, counted xs (stop_at b p) end h.2)

  pub few_declarations : length ds ≤ 1048581
  few_declarations = omega (arith, counted ds _ _ all, stands.tree.end, stands.small)

  -- each has a record
  recorded : (xs : List Declaration) (p end : ℕ) → DeclarationsAt s b xs p end → length (offsets_from b p end) ≡ length xs
  unfolding DeclarationsAt
  recorded [] p end h = ap length (no_offset b end p (omega (arith, h.same)))
  recorded (x ∷ xs) p end h =
      ap length (first_offset b end p (stop_at b p) (omega (arith, h.1.least)) refl) ∙ ap suc (recorded xs (stop_at b p) end h.2)

  -- the record at k is where declaration k starts
  nth_starts : (k : ℕ) (xs : List Declaration) (p end : ℕ) → DeclarationsAt s b xs p end → k ≤ length xs
      → unwrap_or (slice_get (offsets_from b p end) k) end ≡ walked b xs k p
  unfolding DeclarationsAt walked
  nth_starts zero [] p end h l = rw (no_offset b end p (omega (arith, h.same))) (sym h.same)
  nth_starts (suc k) [] p end h l = absurd (omega (arith, l))
  nth_starts zero (x ∷ xs) p end h l = rw (first_offset b end p (stop_at b p) (omega (arith, h.1.least)) refl) refl
  nth_starts (suc k) (x ∷ xs) p end h l =
      rw (first_offset b end p (stop_at b p) (omega (arith, h.1.least)) refl) (nth_starts k xs (stop_at b p) end h.2 (omega (arith, l)))

  pub all_records_in : AllIn b (stop_at b (at + 13)) (stop_at b at)
  all_records_in = declarations_in s b _ _ ds (omega (arith, stands.tree.end)) all

  pub as_many_records : length (offsets_from b (stop_at b (at + 13)) (stop_at b at)) ≡ length ds
  as_many_records = recorded ds _ _ all

  pub record_at : (k : ℕ) → k ≤ length ds → unwrap_or (slice_get (offsets_from b (stop_at b (at + 13)) (stop_at b at)) k) (stop_at b at) ≡ start_of s b at k
  record_at k l = nth_starts k ds _ _ all l

  -- there is one, if the first would start before they end
  pub some_declared : (first end : ℕ) → first ≡ stop_at b (at + 13) → end ≡ stop_at b at → ltb first end ≡ ltb 0 (length ds)
  some_declared first end e f = go (ltb first end) refl
    where
      go : (x : Bool) → ltb first end ≡ x → x ≡ ltb 0 (length ds)
      go true h = sym (lt-ltb 0 (length ds) (some_left ds _ _ all (omega (arith, ltb-true first end h))))
      go false h = sym (le-ltb 0 (length ds) (omega (arith, none_left ds _ _ all (omega (arith, ltb-false first end h)))))

  -- ---- a part of them
  module _ (from to : ℕ) (h : from ≤ to) where
    abbrev ys : List Declaration
    ys = take (to - from) (drop from ds)

    pub between : DeclarationsAt s b ys (start_of s b at from) (start_of s b at to)
    between =
        subst (λ (k : ℕ). DeclarationsAt s b ys (start_of s b at from) (start_of s b at k)) (omega arith)
        (declarations_between s b ds from (to - from) (stop_at b (at + 13)) (stop_at b at) all)

    pub has_part : (first : Bool) {c : Cursor} → Room (declarations_rule (given s b) ys first) c
        → HasAllIn DeclarationsAt (declarations_from first) s b (start_of s b at from) (start_of s b at to) c
    has_part first room = record {
      accepted = ready;
      tree = ys;
      held = between;
      inside = omega (arith, walked_within s b ds to (stop_at b (at + 13)) (stop_at b at) all, stands.tree.end);
      room = room;
    }

    parted : take from ds ++ (ys ++ drop (to - from) (drop from ds)) ≡ ds
    parted =
        ap (λ (l : List Declaration). take from ds ++ l) (take-append-drop (to - from) (drop from ds)) ∙ take-append-drop from ds

  -- ---- what a call lays
  module _ {state : LayoutState} {q : LayoutArgs} (goes : Goes s b d state q) where
    abbrev h : state.declaration ≤ q.stop
    h = goes.ahead

    abbrev c : Cursor
    c = from_of state

    abbrev from : ℕ
    from = state.declaration

    abbrev behind : List Declaration
    behind = drop (q.stop - from) (drop from ds)

    pub room : Room (call_act s b state q) c
    room =
        call_room stands (take from ds) (ys from q.stop h) behind (not state.begun) (eqb from 0) q.close
        (keeps_waiting q.mode)
        (parted from q.stop h)
        c
        goes.row
        goes.number
        (omega (arith, comments_count, goes.placed))

    pub few_rows : ROW_TAKES * sizes (call_act s b state q (st c)).nodes ≤ BYTE_GIVES * length b
    few_rows =
        (few (given s b) (tree s b) at stands (take from ds) (ys from q.stop h) behind (parted from q.stop h) (not state.begun) (eqb from 0)
        q.close
        (keeps_waiting q.mode)
        (st c)
        (omega (arith, comments_count, goes.placed))
        ).rows

-- what is laid of a file that is read
module _ {p : Parsed} {d : Document} (a : Accepts p.source.now p.image.now d) {x y : State} where
  pub shebang_laid : LaidAs MaybeIdentAt shebang_rule p (d.tree + 13) x y
      → Room (shebang_rule (given_by p) (tree p.source.now p.image.now).shebang) x.cursor
      → Does (shebang_rule (given_by p) (tree p.source.now p.image.now).shebang) x y
  unfolding has_shebang
  shebang_laid l room = record { laid = l.of (has_shebang a room); same = l.same }

  pub part_laid : (from to : ℕ) (h : from ≤ to) (first : Bool)
      → LaidAll DeclarationsAt (declarations_from first) p (start_of p.source.now p.image.now d.tree from) (start_of p.source.now p.image.now d.tree to) x y
      → Room (declarations_rule (given_by p) (ys a from to h) first) x.cursor → Does (declarations_rule (given_by p) (ys a from to h) first) x y
  unfolding has_part
  part_laid from to h first l room = record { laid = l.of (has_part a from to h first room); same = l.same }
