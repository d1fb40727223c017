-- Which rows are entered, and what stands there, reads the marks of the nodes' own numbers alone: with other marks elsewhere the same rows are
-- entered, with the same text; and marks that again differ elsewhere alone. Also where a rendering goes on from open rows.
-- Assumes nothing.
use mathlib.Core.Path.{◌≡◌, refl, sym, ap, subst, subst₂, ◌∙◌}
use mathlib.Core.Bool.{Bool, true, false, cond, not, ◌&&◌, ◌||◌}
use mathlib.Core.List.{List, [], ◌∷◌, ◌++◌}
use Prim.Native.Nat.{ℕ, zero, suc, ◌≤◌}
use native.Mathlib.Omega.{arith}
use lib.Dec.{eqb}
use lib.ListN.{get_or, length}
use Rattle.laws.proofs.Booleans.{both}
use Rattle.rows.specs.Kinds.{CALL}
use Rattle.rows.specs.Node.{Node, Nodes, group, indent, indent_next, wrap_parent, comment as comment_node, str, ascii}
use Rattle.rows.specs.Node.{line, empty_line, line_or_space, if_wrap, call, none, ◌then◌, wrapped}
use Rattle.rows.specs.View.{View, nodes_at}
use Rattle.rows.proofs.Nested.{nests_le}
use Rattle.renderer_rules.specs.declared.Frame.{Frame}
use Rattle.renderer_rules.specs.Frames.{frame_at, part_limit, wrap_at, Open, Under, AllLie}
use Rattle.renderer_rules.specs.Machine.{closing}
use Rattle.renderer_rules.specs.Renderer.{Page, Renderer, on_pen, insert, indent_more, next_indent_more, indent_less, next_indent_less}
use Rattle.renderer_rules.specs.Renderer.{group_wraps, trailing_call, callee_wraps, render_node, render_nodes}
use Rattle.renderer_rules.specs.Stops.{OpenRow, trailing, way_of, open_at, inside, Stop, stop_at, listed_rows, within, entered, arguments, behind, ahead}
use Rattle.renderer_rules.specs.Stops.{rest, meaning}
use Rattle.renderer_rules.proofs.Names.{names, names_in, neither}
use Rattle.renderer_rules.proofs.OwnMarks.{Alike, Inside, Within, keeps_pen, insert_alike, wrapped_same, group_same, trailing_same, callee_same}
use Rattle.renderer_rules.proofs.OwnMarks.{render_alike, renders_alike}

module _ (q : ℕ → Bool) where
  -- the same row, with the same rows listed
  pub record AlikeAt (e f : Stop) : Type 0 where
    pub next : f.next ≡ e.next
    pub listed : f.listed ≡ e.listed
    pub state : Alike q e.state f.state

  -- as many stops, alike one by one
  unfoldable pub AllAlike : List Stop → List Stop → Type 0
  AllAlike [] [] = Unit {0}
  AllAlike [] (f ∷ m) = ⊥
  AllAlike (e ∷ l) [] = ⊥
  AllAlike (e ∷ l) (f ∷ m) = AlikeAt e f × AllAlike l m

  none_alike : AllAlike [] []
  unfolding AllAlike
  none_alike = tt

  first_alike : (i : ℕ) (es : List OpenRow) (s t : Renderer) (l m : List Stop) → Alike q s t → AllAlike l m
      → AllAlike (stop_at i es s ∷ l) (stop_at i es t ∷ m)
  unfolding AllAlike
  first_alike i es s t l m a h = (record { next = refl; listed = refl; state = a }, h)

  both_alike : (k l m n : List Stop) → AllAlike k m → AllAlike l n → AllAlike (k ++ l) (m ++ n)
  unfolding AllAlike
  both_alike [] l [] n a b = b
  both_alike [] l (f ∷ m) n a b = absurd a
  both_alike (e ∷ k) l [] n a b = absurd a
  both_alike (e ∷ k) l (f ∷ m) n a b = (a.0, both_alike k l m n a.1 b)

  either_alike : (c : Bool) (k l m n : List Stop) → AllAlike k m → AllAlike l n → AllAlike (cond c k l) (cond c m n)
  either_alike true k l m n a b = a
  either_alike false k l m n a b = b

  pub alike_at : (l m : List Stop) (n : ℕ) (d e : Stop) → AllAlike l m → AlikeAt d e → AlikeAt (get_or l n d) (get_or m n e)
  unfolding AllAlike
  alike_at [] [] zero d e a b = b
  alike_at [] [] (suc n) d e a b = b
  alike_at [] (g ∷ m) n d e a b = absurd a
  alike_at (f ∷ l) [] n d e a b = absurd a
  alike_at (f ∷ l) (g ∷ m) zero d e a b = a.0
  alike_at (f ∷ l) (g ∷ m) (suc n) d e a b = alike_at l m n d e a.1 b

  pub as_many : (l m : List Stop) → AllAlike l m → length m ≡ length l
  unfolding AllAlike
  as_many [] [] a = refl
  as_many [] (g ∷ m) a = absurd a
  as_many (f ∷ l) [] a = absurd a
  as_many (f ∷ l) (g ∷ m) a = ap suc (as_many l m a.1)

  module _ (v : View) (p : Page) where
    abbrev Ih : Nodes → Type 0
    Ih ns = (i : ℕ) (es : List OpenRow) (w : Bool) (s t : Renderer) → Alike q s t → AllAlike (entered v p ns i es w s) (entered v p ns i es w t)

    -- nodes as a group
    grouped_rows : (n : ℕ) (ns : Nodes) (i : ℕ) (es : Bool → List OpenRow) (s t : Renderer) → Inside q ns → Ih ns → Alike q s t
        → AllAlike (entered v p ns i (es (group_wraps p ns s)) (group_wraps p ns s) (insert (group_wraps p ns s) n s))
        (entered v p ns i (es (group_wraps p ns t)) (group_wraps p ns t) (insert (group_wraps p ns t) n t))
    grouped_rows n ns i es s t j ih a =
        let b = group_wraps p ns s in
        subst (λ (c : Bool). AllAlike (entered v p ns i (es b) b (insert b n s)) (entered v p ns i (es c) c (insert c n t))) (sym (group_same q p ns s t j a))
        (ih i (es b) b (insert b n s) (insert b n t) (insert_alike q b n s t a))

    -- a `Call`, by its branch and whether its callee wraps
    abbrev call_rows : Bool → Bool → ℕ → Nodes → ℕ → Nodes → ℕ → List OpenRow → Renderer → List Stop
    call_rows trails outer n e k a i es r =
        let deeper = not trails && outer in
        let way = way_of (not trails) deeper in
        let s : Renderer = on_pen (next_indent_more deeper) (insert outer n r) in
        let t : Renderer = render_nodes p e outer s in
        let inner = group_wraps p a t in
        entered v p e (suc i) (inside es (open_at i outer way)) outer s
        ++ entered v p a (v.second i) (inside es (open_at i inner way)) inner (insert inner k t)

    called_rows : (c o : Bool) (n : ℕ) (e : Nodes) (k : ℕ) (b : Nodes) (i : ℕ) (es : List OpenRow) (s t : Renderer) → Inside q e → Inside q b → Ih e → Ih b
        → Alike q s t → AllAlike (call_rows c o n e k b i es s) (call_rows c o n e k b i es t)
    called_rows c o n e k b i es s t u j ihe ihb a =
        let deeper = not c && o in
        let way = way_of (not c) deeper in
        let x = keeps_pen q (next_indent_more deeper) _ _ (insert_alike q o n s t a) in
        both_alike _ _ _ _ (ihe (suc i) (inside es (open_at i o way)) o _ _ x)
        (grouped_rows k b (v.second i) (λ w. inside es (open_at i w way)) _ _ j ihb (renders_alike q p e o _ _ u x))

    mutual
      unfolding within entered names

      within_alike : (n : Node) (i : ℕ) (es : List OpenRow) (w : Bool) (s t : Renderer) → Within q n → Alike q s t
          → AllAlike (within v p n i es w s) (within v p n i es w t)
      within_alike (group n ns) i es w s t h a =
          let j : Inside q ns = λ x z. (neither (eqb x n) (names_in x ns) (h x z)).1 in
          grouped_rows n ns (suc i) (λ c. inside es (open_at i c trailing)) s t j (λ k fs c s' t' a'. entered_alike ns k fs c s' t' j a') a
      within_alike (indent ns) i es w s t h a = entered_alike ns (suc i) _ w _ _ h (keeps_pen q (indent_more w) s t a)
      within_alike (indent_next ns) i es w s t h a = entered_alike ns (suc i) _ w _ _ h (keeps_pen q (next_indent_more w) s t a)
      within_alike wrap_parent i es w s t h a = none_alike
      within_alike (comment_node x) i es w s t h a = none_alike
      within_alike (str k x) i es w s t h a = none_alike
      within_alike (ascii x) i es w s t h a = none_alike
      within_alike line i es w s t h a = none_alike
      within_alike empty_line i es w s t h a = none_alike
      within_alike line_or_space i es w s t h a = none_alike
      within_alike (if_wrap n b c) i es w s t h a =
          let f : (x : ℕ) → q x ≡ false → (names x b ≡ false) × (names x c ≡ false) =
          λ x z. neither (names x b) (names x c) (neither (eqb x n) (names x b || names x c) (h x z)).1
          in
          let fs = inside es (open_at i w trailing) in
          subst (λ (z : Bool). AllAlike (within v p (if_wrap n b c) i es w s)
          (cond z (stop_at (suc i) fs t ∷ within v p b (suc i) fs w t) (stop_at (v.second i) fs t ∷ within v p c (v.second i) fs w t)))
          (sym (wrapped_same q n s.marks t.marks a.marks (λ z. (neither (eqb n n) (names n b || names n c) (h n z)).0)))
          (either_alike (wrapped s.marks n) _ _ _ _
          (first_alike (suc i) fs s t _ _ a (within_alike b (suc i) fs w s t (λ x z. (f x z).0) a))
          (first_alike (v.second i) fs s t _ _ a (within_alike c (v.second i) fs w s t (λ x z. (f x z).1) a)))
      within_alike (call n e k b) i es w s t h a =
          let f : (x : ℕ) → q x ≡ false → (names_in x e ≡ false) × (names_in x b ≡ false) =
          λ x z. neither (names_in x e) (names_in x b) (neither (eqb x n || eqb x k) (names_in x e || names_in x b) (h x z)).1
          in
          let u : Inside q e = λ x z. (f x z).0 in
          let j : Inside q b = λ x z. (f x z).1 in
          let c = trailing_call p e b s in
          let o = callee_wraps p c e b s in
          let one : trailing_call p e b t ≡ c = trailing_same q p e b s t u j a in
          let two : callee_wraps p (trailing_call p e b t) e b t ≡ o = ap (λ (z : Bool). callee_wraps p z e b t) one ∙ callee_same q p c e b s t u j a in
          subst₂ (λ (y z : Bool). AllAlike (call_rows c o n e k b i es s) (call_rows y z n e k b i es t)) (sym one) (sym two)
          (called_rows c o n e k b i es s t u j
          (λ m fs w' s' t' a'. entered_alike e m fs w' s' t' u a') (λ m fs w' s' t' a'. entered_alike b m fs w' s' t' j a') a)

      pub entered_alike : (ns : Nodes) (i : ℕ) (es : List OpenRow) (w : Bool) (s t : Renderer) → Inside q ns → Alike q s t
          → AllAlike (entered v p ns i es w s) (entered v p ns i es w t)
      entered_alike none i es w s t h a = none_alike
      entered_alike (n then ns) i es w s t h a =
          let f : (x : ℕ) → q x ≡ false → (names x n ≡ false) × (names_in x ns ≡ false) = λ x z. neither (names x n) (names_in x ns) (h x z) in
          first_alike i es s t _ _ a
          (both_alike _ _ _ _ (within_alike n i es w s t (λ x z. (f x z).0) a)
          (entered_alike ns (v.after i) es w (render_node p n w s) (render_node p n w t) (λ x z. (f x z).1) (render_alike q p n w s t (λ x z. (f x z).0) a)))

    -- ---- going on from open rows
    module _ (from stop : ℕ) (own : (i j : ℕ) → from ≤ i → j ≤ stop → Inside q (nodes_at v i j)) where
      arguments_alike : (es : List OpenRow) (f : Frame) (s t : Renderer) → v.after f.row ≤ stop → (f.first ≡ true → from ≤ v.second f.row) → Alike q s t
          → AllAlike (arguments v p es f s) (arguments v p es f t)
      unfolding arguments
      arguments_alike es f s t d h a = go (eqb (v.kind f.row) CALL && f.first) refl
        where
          ns : Nodes
          ns = nodes_at v (v.second f.row) (v.after f.row)

          rows : Renderer → List Stop
          rows r =
              entered v p ns (v.second f.row) (inside es (open_at f.row (group_wraps p ns r) (way_of f.made f.deeper))) (group_wraps p ns r)
              (insert (group_wraps p ns r) (v.number2 f.row) r)

          go : (c : Bool) → (eqb (v.kind f.row) CALL && f.first) ≡ c → AllAlike (cond c (rows s) []) (cond c (rows t) [])
          go false x = none_alike
          go true x =
              let y = both (eqb (v.kind f.row) CALL) f.first x in
              let j = own (v.second f.row) (v.after f.row) (h y.1) d in
              grouped_rows (v.number2 f.row) ns (v.second f.row) (λ c. inside es (open_at f.row c (way_of f.made f.deeper))) s t j
              (λ k fs w s' t' a'. entered_alike ns k fs w s' t' j a') a

      -- the number of a `Call`'s arguments is read nowhere in them: setting its mark keeps what is alike
      closing_alike : (f : Frame) (s t : Renderer) (c : ℕ) → v.kind f.row ≡ c → v.after f.row ≤ stop → (f.first ≡ true → from ≤ v.second f.row)
          → Alike q s t → Alike q (closing v p f s) (closing v p f t)
      unfolding closing render_node
      closing_alike f s t zero e d h a = rw e a
      closing_alike f s t (suc zero) e d h a = rw e (keeps_pen q (indent_less f.wrap) s t a)
      closing_alike f s t (suc (suc zero)) e d h a = rw e (keeps_pen q (next_indent_less f.wrap) s t a)
      closing_alike f s t (suc (suc (suc zero))) e d h a = rw e a
      closing_alike f s t (suc (suc (suc (suc zero)))) e d h a = rw e a
      closing_alike f s t (suc (suc (suc (suc (suc zero))))) e d h a = rw e a
      closing_alike f s t (suc (suc (suc (suc (suc (suc zero)))))) e d h a = rw e a
      closing_alike f s t (suc (suc (suc (suc (suc (suc (suc zero))))))) e d h a = rw e a
      closing_alike f s t (suc (suc (suc (suc (suc (suc (suc (suc zero)))))))) e d h a = rw e a
      closing_alike f s t (suc (suc (suc (suc (suc (suc (suc (suc (suc zero))))))))) e d h a = rw e a
      closing_alike f s t (suc (suc (suc (suc (suc (suc (suc (suc (suc (suc zero)))))))))) e d h a = rw e a
      closing_alike f s t (suc (suc (suc (suc (suc (suc (suc (suc (suc (suc (suc zero))))))))))) e d h a =
          rw e (keeps_pen q (next_indent_less f.deeper) _ _ (go f.first refl))
        where
          ns : Nodes
          ns = nodes_at v (v.second f.row) (v.after f.row)

          done : Renderer → Renderer
          done r = render_nodes p ns (group_wraps p ns r) (insert (group_wraps p ns r) (v.number2 f.row) r)

          go : (c : Bool) → f.first ≡ c → Alike q (cond c (done s) s) (cond c (done t) t)
          go true x =
              let j = own (v.second f.row) (v.after f.row) (h x) d in
              let b = group_wraps p ns s in
              subst (λ (c : Bool). Alike q (render_nodes p ns b (insert b (v.number2 f.row) s)) (render_nodes p ns c (insert c (v.number2 f.row) t)))
              (sym (group_same q p ns s t j a))
              (renders_alike q p ns b _ _ j (insert_alike q b (v.number2 f.row) s t a))
          go false x = a
      closing_alike f s t (suc (suc (suc (suc (suc (suc (suc (suc (suc (suc (suc (suc c)))))))))))) e d h a = rw e a

      behind_alike : (fs : List Frame) (d : ℕ) (s t : Renderer) → Under v stop fs d → AllLie v from fs d → Alike q s t
          → AllAlike (behind v p stop fs d s) (behind v p stop fs d t) × Alike q (rest v p stop fs d s) (rest v p stop fs d t)
      unfolding rest behind Under
      behind_alike fs zero s t u l a = (none_alike, a)
      behind_alike fs (suc d) s t u l a =
          let f = frame_at fs d in
          let o : Open v stop fs d = u.0 in
          let at = l d (omega arith) in
          let low = o.low in
          let le = nests_le o.after in
          let end : v.after f.row ≤ stop = omega arith in
          let x = closing_alike f s t (v.kind f.row) refl end at.part a in
          let ns = nodes_at v (v.after f.row) (part_limit v stop fs d) in
          let j = own (v.after f.row) (part_limit v stop fs d) at.after low in
          let w = wrap_at fs d in
          let y = renders_alike q p ns w _ _ j x in
          let more = behind_alike fs d _ _ u.1 (λ k h. l k (omega arith)) y in (
            both_alike _ _ _ _ (arguments_alike (listed_rows fs d) f s t end at.part a)
                (both_alike _ _ _ _ (entered_alike ns (v.after f.row) (listed_rows fs d) w _ _ j x) more.0),
            more.1,
          )

      pub ahead_alike : (fs : List Frame) (d i : ℕ) (s t : Renderer) → Under v stop fs d → part_limit v stop fs d ≤ stop → from ≤ i → AllLie v from fs d
          → Alike q s t → AllAlike (ahead v p stop fs d i s) (ahead v p stop fs d i t) × Alike q (meaning v p stop fs d i s) (meaning v p stop fs d i t)
      unfolding ahead meaning
      ahead_alike fs d i s t u low h l a =
          let ns = nodes_at v i (part_limit v stop fs d) in
          let j = own i (part_limit v stop fs d) h low in
          let w = wrap_at fs d in
          let more = behind_alike fs d _ _ u l (renders_alike q p ns w s t j a) in
          (both_alike _ _ _ _ (entered_alike ns i (listed_rows fs d) w s t j a) more.0, more.1)

      -- a stop, or the end, is alike
      pub stops_alike : (fs : List Frame) (d i n : ℕ) (s t : Renderer) → Under v stop fs d → part_limit v stop fs d ≤ stop → from ≤ i → AllLie v from fs d
          → Alike q s t
          → AlikeAt (get_or (ahead v p stop fs d i s) n (stop_at stop [] (meaning v p stop fs d i s)))
          (get_or (ahead v p stop fs d i t) n (stop_at stop [] (meaning v p stop fs d i t)))
      stops_alike fs d i n s t u low h l a =
          let x = ahead_alike fs d i s t u low h l a in
          alike_at (ahead v p stop fs d i s) (ahead v p stop fs d i t) n _ _ x.0 (record { next = refl; listed = refl; state = x.1 })
