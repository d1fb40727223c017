-- What follows for an accepted image: the rows and the numbers of a document fit, from the fresh state within the limits of document 01;
-- its rows are 133 deep at most; its texts lie inside their origins; its position stays in the source.
-- Assumes nothing.
use Prim.Native.Nat.{ℕ, ◌+◌, ◌*◌, ◌≤◌}
use mathlib.Core.Path.{◌≡◌, refl, ap}
use mathlib.Core.Bool.{Bool, true}
use mathlib.Core.List.{List, [], ◌∷◌, ◌++◌}
use Rattle.std.specs.Prelude.{None as nothing}
use native.Mathlib.Omega.{arith}
use lib.ListN.{length}
use Rattle.text.specs.Utf8.{well_formed}
use Rattle.text.proofs.Counts.{range_inside}
use Rattle.image.specs.Read.{width_bytes}
use Rattle.image.proofs.Accepted.{Root}
use Rattle.ast.specs.Syntax.{Declaration, SyntaxTree}
use Rattle.tree.specs.At.{past, DeclarationsAt}
use Rattle.tree.specs.Records.{syntax_tree}
use Rattle.tree.proofs.Walk.{declarations_order}
use Rattle.tree.proofs.Whole.{root_at}
use Rattle.rows.specs.Limits.{MAX_ROWS, MAX_NUMBER}
use Rattle.rows.specs.Places.{PLACES}
use Rattle.rows.specs.Node.{Text, Nodes}
use Rattle.rows.specs.Rows.{sizes, rows}
use Rattle.rows.proofs.Flatten.{Holds}
use Rattle.renderer_rules.specs.Check.{wrong_place, wrong_place_by}
use Rattle.node_widths.specs.Summed.{summed_all}
use Rattle.acts.specs.Act.{Given, St, Out, Act}
use Rattle.acts.specs.Laid.{st, Room}
use Rattle.acts.specs.declared.Cursor.{Cursor}
use Rattle.comments.specs.Listed.{given, Listed}
use Rattle.comments.proofs.Fronts.{count_of, good}
use Rattle.layout_facts.specs.Placing.{Places}
use Rattle.layout_facts.specs.Sound.{Commented, Sounds}
use Rattle.layout_facts.specs.Height.{declarations_height, tree_height}
use Rattle.layout.specs.Closing.{fresh, up_to, whole_rule, call_rule}
use Rattle.layout_facts.specs.Accepted.{WordsDue, Few, FewRows, Stands, Within}
use Rattle.layout_facts.proofs.Placing.{places_then}
use Rattle.layout_facts.proofs.InOrder.{places_shebang, places_declarations, places_whole, places_call}
use Rattle.layout_facts.proofs.Steps.{◌⨾◌, fewer, sound_when}
use Rattle.layout_facts.proofs.Parts.{points}
use Rattle.layout_facts.proofs.Document.{sound_shebang, sound_declarations, sound_closing, sound_whole}
use Rattle.layout_facts.proofs.Passes.{not_refused, laid_passes}
use Rattle.layout_facts.proofs.Levels.{accepted_high}

-- ---- an accepted image
pub commented : {s b : List ℕ} → well_formed s ≡ true → Listed s b → Commented (given s b)
commented {s} formed l =
    record {
      ranged =
          λ k c f.
          let w = range_inside s c.start c.end (good l k c f).range in
          record { ordered = omega (arith, w); fits = omega (arith, w); range = (good l k c f).range };
      formed = formed;
    }

pub stands : (may : ℕ → Bool) (ordered : Bool) (s b : List ℕ) (n at : ℕ) → well_formed s ≡ true
    → (r : Root may ordered s b n at) → Stands (given s b) (syntax_tree b r.tree) at
stands may ordered s b n at formed r =
    let l : Listed s b =
    record {
      few = r.list.few;
      within = r.list.within;
      order = λ k h. (r.list.list.each k h).order;
      range = λ k h. (r.list.list.each k h).range;
    }
    in
    record {
      tree = root_at s b may ordered n at r;
      high = accepted_high s b (width_bytes b) 1 at r.tree (length b) r.reads;
      comments = commented formed l;
      count = omega (arith, count_of b, r.list.few);
      place = omega (arith, count_of b, r.count, r.place);
      small = omega (arith, r.head.size, r.head.short);
    }

-- ---- parts of the declarations
-- the declarations xs and then ys, from `at` to `end`
record Parted (s b : List ℕ) (xs ys : List Declaration) (at end : ℕ) : Type 0 where
  mid : ℕ
  first : DeclarationsAt s b xs at mid
  rest : DeclarationsAt s b ys mid end
  order : mid ≤ end

parted : (s b : List ℕ) (xs ys : List Declaration) (at end : ℕ) → DeclarationsAt s b (xs ++ ys) at end → Parted s b xs ys at end
unfolding DeclarationsAt
parted s b [] ys at end a =
    record { mid = at; first = record { same = refl }; rest = a; order = declarations_order s b ys at end a }
parted s b (x ∷ xs) ys at end a =
    let p = parted s b xs ys (past s b at) end a.2 in
    let o = declarations_order s b xs (past s b at) p.mid p.first in
    record { mid = p.mid; first = (a.0, record { least = o }, p.first); rest = p.rest; order = p.order }

height_first : (xs ys : List Declaration) → declarations_height xs ≤ declarations_height (xs ++ ys)
unfolding declarations_height
height_first [] ys = omega arith
height_first (x ∷ xs) ys = omega (arith, height_first xs ys)

height_rest : (xs ys : List Declaration) → declarations_height ys ≤ declarations_height (xs ++ ys)
unfolding declarations_height
height_rest [] ys = omega arith
height_rest (x ∷ xs) ys = omega (arith, height_rest xs ys)

module _ {g : Given} {t : SyntaxTree} {at : ℕ} (a : Stands g t at) where
  low : declarations_height t.declarations ≤ 66
  unfolding tree_height
  low = omega (arith, a.high)

  -- ---- the whole, what is laid up to a stop, and what is laid between two
  whole_sound : (keeps : Bool) → Sounds g (points g at 0) 132 (whole_rule g t keeps)
  whole_sound keeps = sound_whole a.comments t at keeps a.tree (omega (arith, a.high))

  pub up_to_sound : (xs ys : List Declaration) → xs ++ ys ≡ t.declarations → Sounds g (points g at 0) 132 (up_to g t xs)
  unfolding points
  up_to_sound xs ys e =
      let from : ℕ = past g.source g.image (at + 13) in
      let p = parted g.source g.image xs ys from (past g.source g.image at) (rw e a.tree.declarations) in
      let h : declarations_height xs ≤ 66 = omega (arith, height_first xs ys, ap declarations_height e, low) in
      fewer
      (sound_shebang a.comments t.shebang (at + 13) a.tree.shebang
      ⨾ sound_declarations a.comments xs from p.mid true p.first (omega arith))
      (omega (arith, p.order, a.tree.inside.least))

  pub call_sound : (xs ys zs : List Declaration) (begins first closes keeps : Bool) → xs ++ (ys ++ zs) ≡ t.declarations
      → Sounds g (points g at 0) 132 (call_rule g t begins ys first closes keeps)
  unfolding points
  call_sound xs ys zs begins first closes keeps e =
      let from : ℕ = past g.source g.image (at + 13) in
      let end : ℕ = past g.source g.image at in
      let p = parted g.source g.image xs (ys ++ zs) from end (rw e a.tree.declarations) in
      let q = parted g.source g.image ys zs p.mid end p.rest in
      let o = declarations_order g.source g.image xs from p.mid p.first in
      let h : declarations_height ys ≤ 66 = omega (arith, height_first ys zs, height_rest xs (ys ++ zs), ap declarations_height e, low) in
      fewer
      (sound_when begins (sound_shebang a.comments t.shebang (at + 13) a.tree.shebang)
      ⨾ sound_declarations a.comments ys p.mid q.mid first q.first (omega arith)
      ⨾ sound_when closes (sound_closing a.comments t keeps))
      (omega (arith, o, q.order, a.tree.inside.least))

  -- ---- the limits, from the fresh state: three rows a comment are less than its eight bytes give
  within : {d : ℕ} (s : Act) → d ≤ 255 → Sounds g (points g at 0) d s → Places g s → Within g (s fresh)
  unfolding points
  within s h p q =
      let r = p.from fresh in
      let w = q.from fresh (omega arith) in
      record {
        rows = omega (arith, r.rows, w.within, a.tree.end, a.place, a.small);
        numbers = omega (arith, r.taken, a.tree.end, a.place, a.small);
        deep = omega (arith, r.deep);
        texts = r.texts;
        position = r.position (omega arith);
        placed = w.within;
      }

  pub closed_within : (keeps : Bool) → Within g (whole_rule g t keeps fresh)
  closed_within keeps = within (whole_rule g t keeps) (omega arith) (whole_sound keeps) (places_whole g t keeps)

  pub up_to_within : (xs ys : List Declaration) → xs ++ ys ≡ t.declarations → Within g (up_to g t xs fresh)
  up_to_within xs ys e =
      within (up_to g t xs) (omega arith) (up_to_sound xs ys e) (places_then (places_shebang g t.shebang) (places_declarations g xs true))

  -- ---- the rows of a layout call pass the row check, from any state and wherever they stand
  -- the rows due from the fresh state, at the start of the store
  pub due_passes : {o : Out} → Within g o → (store : List ℕ) → Holds store 0 (rows o.nodes 0) → sizes o.nodes * PLACES ≤ length store
      → wrong_place g.source g.image store 0 (0 + sizes o.nodes) ≡ nothing
  due_passes {o} w store h fits = not_refused g o.nodes store 0 h w.deep w.texts (omega (arith, w.rows)) (omega arith)

  -- the same whatever widths were laid, under every rule
  pub due_passes_by : (rule : ℕ) (f : ℕ → Text → ℕ) {o : Out} → Within g o → (store : List ℕ) → Holds store 0 (rows (summed_all f o.nodes) 0)
      → sizes o.nodes * PLACES ≤ length store
      → wrong_place_by rule g.source g.image store 0 (0 + sizes o.nodes) ≡ nothing
  due_passes_by rule f {o} w store h fits = laid_passes rule f g o.nodes store 0 h w.deep w.texts (omega (arith, w.rows)) (omega arith)

  -- ---- room for the rows of a layout call, from any state that refusal 12 lets pass
  room : {d : ℕ} (s : Act) → Sounds g (points g at 0) d s → Places g s → (c : Cursor) → c.row ≤ MAX_ROWS → c.number ≤ MAX_NUMBER
      → c.placed ≤ length g.comments → Room s c
  unfolding points
  room s p q c h i j =
      let r = p.from (st c) in
      let w = q.from (st c) j in
      record {
        rows_fit = omega (arith, r.rows, w.within, a.tree.end, a.place, a.small);
        numbers_fit = omega (arith, r.taken, a.tree.end, a.place, a.small);
      }

  pub call_room : (xs ys zs : List Declaration) (begins first closes keeps : Bool) → xs ++ (ys ++ zs) ≡ t.declarations → (c : Cursor)
      → c.row ≤ MAX_ROWS → c.number ≤ MAX_NUMBER → c.placed ≤ length g.comments → Room (call_rule g t begins ys first closes keeps) c
  call_room xs ys zs begins first closes keeps e =
      room (call_rule g t begins ys first closes keeps) (call_sound xs ys zs begins first closes keeps e) (places_call g t begins ys first closes keeps)

  -- no call takes more rows than the image's bytes give
  call_few : (xs ys zs : List Declaration) (begins first closes keeps : Bool) → xs ++ (ys ++ zs) ≡ t.declarations → (s : St)
      → s.placed ≤ length g.comments → Few g (call_rule g t begins ys first closes keeps s)
  unfolding points
  call_few xs ys zs begins first closes keeps e s h =
      let r = (call_sound xs ys zs begins first closes keeps e).from s in
      let w = (places_call g t begins ys first closes keeps).from s h in
      record {
        rows = omega (arith, r.rows, w.within, a.tree.end, a.place);
        numbers = omega (arith, r.taken, a.tree.end, a.place);
      }

pub few_rows : FewRows
few_rows g t at a xs ys zs e begins first closes keeps s h = call_few a xs ys zs begins first closes keeps e s h

pub words_due : WordsDue
words_due g t at a xs ys zs e begins first closes keeps s = ((call_sound a xs ys zs begins first closes keeps e).from s).texts
