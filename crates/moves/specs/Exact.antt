-- What 21 means: "Forward is allowed when every stored width is what 16.0 gives (for the shebang, of its trimmed text)", and going back no width is
-- over 65,535.
use Rattle.std.specs.Prelude.{◌≡◌, Bool, true, false, List, ℕ, ◌+◌, eqb, Option, Some}
use Rattle.refusals.specs.Refusals.{Refusal}
use Rattle.image.specs.Bytes.{part}
use Rattle.image.specs.Kinds.{TREE, TEXT}
use Rattle.image.specs.Read.{Tree, Trees, node, ◌▸◌, Read, got, Image}
use Rattle.moves.specs.Moves.{is_wrong, is_wide, read_forward, read_back, forward_refusal, back_refusal}

-- x is the payload of the text record at `at`, somewhere in a tree or in trees; `shebang` says whether it is the shebang, u whether the tree, or
-- the first of the trees, stands at the shebang's place
mutual
  pub data TextIn (b : List ℕ) : Bool → Tree → ℕ → Bool → List ℕ → Type 0 where
    itself : {u : Bool} {h : Rattle.image.specs.Read.Head} {ts : Trees} → eqb h.kind TEXT ≡ true → TextIn b u (node h ts) h.at u (part (h.at + 13) h.first b)
    within : {u : Bool} {h : Rattle.image.specs.Read.Head} {ts : Trees} {at : ℕ} {shebang : Bool} {x : List ℕ} → TextAmong b (eqb h.kind TREE) ts at shebang x
        → TextIn b u (node h ts) at shebang x

  pub data TextAmong (b : List ℕ) : Bool → Trees → ℕ → Bool → List ℕ → Type 0 where
    first : {u : Bool} {t : Tree} {ts : Trees} {at : ℕ} {shebang : Bool} {x : List ℕ} → TextIn b u t at shebang x → TextAmong b u (t ▸ ts) at shebang x
    later : {u : Bool} {t : Tree} {ts : Trees} {at : ℕ} {shebang : Bool} {x : List ℕ} → TextAmong b false ts at shebang x → TextAmong b u (t ▸ ts) at shebang x

-- a text of the image at `at` for which the test holds
pub record Found (test : Bool → List ℕ → Bool) (b : List ℕ) (i : Image) (at : ℕ) : Type 0 where
  pub shebang : Bool
  pub payload : List ℕ
  pub there : TextIn b false i.tree at shebang payload
  pub holds : test shebang payload ≡ true

-- of an image that is read, 21 names such a text; and where nothing is refused there is none
pub record Exactly (test : Bool → List ℕ → Bool) (b : List ℕ) (r : Read Image) (refusal : Option Refusal) : Type 0 where
  pub named : (i : Image) (end p : ℕ) → r ≡ got i end → refusal ≡ Some (record { number = 21; place = p }) → Found test b i p
  pub none : (i : Image) (end at : ℕ) (shebang : Bool) (x : List ℕ) → r ≡ got i end → ((p : ℕ) → refusal ≡ Some (record { number = 21; place = p }) → ⊥)
      → TextIn b false i.tree at shebang x → test shebang x ≡ false

abbrev pub TwentyOne : Type 0
TwentyOne =
    (s b : List ℕ) (room : ℕ)
    → Exactly is_wrong b (read_forward s b) (forward_refusal s b room) × Exactly is_wide b (read_back s b) (back_refusal s b room)
