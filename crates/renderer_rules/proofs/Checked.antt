-- The check of rows is right: it finds nothing wrong exactly where the rows nest and each row's places are right.
-- Assumes nothing.
use mathlib.Core.Path.{◌≡◌, refl, sym, subst, ◌∙◌}
use Prim.Native.Nat.{ℕ, zero, suc, ◌-◌, ◌≤◌, ◌<◌}
use native.Mathlib.Omega.{arith}
use mathlib.Core.Bool.{Bool, true, false, cond, ◌&&◌, ◌||◌}
use Rattle.std.specs.Prelude.{Option, Some, None}
use lib.Dec.{ltb, leb, eqb}
use borrow.Author.Tests.{lt-ltb, le-leb, eq-eqb, ltb-true, ltb-false, leb-true, eqb-true, eqb-false}
use Rattle.rows.specs.Limits.{MAX_DEPTH}
use Rattle.rows.specs.Kinds.{WRAP_PARENT, LINE_OR_SPACE, IF_WRAP, CALL}
use Rattle.laws.proofs.Numbers.{lt_of}
use Rattle.laws.proofs.Booleans.{both}
use Rattle.laws.proofs.Options.{never}
use Rattle.rows.specs.View.{View, view_of}
use Rattle.rows.specs.Nesting.{RangeIn, Split, TwoParts, Nests, over, leaf, block, two, pair}
use Rattle.rows.proofs.Nested.{nests_le, nests_leaf, nests_two, nests_pair, nests_kind, nests_after, nests_rest, nests_deep, nests_join}
use Rattle.renderer_rules.specs.Check.{reaches, is_leaf, has_two, is_split, parts_fit, row_fits_of, or_later}
use Rattle.renderer_rules.specs.Check.{first_wrong, wrong_row_of, places_fit, wrong_place, FaultOfPart}

pub no_wrong : (a b : Option ℕ) → or_later a b ≡ None → (a ≡ None) × (b ≡ None)
no_wrong None b e = (refl, e)
no_wrong (Some i) b e = absurd (never i e)

-- What is accepted nests.

closer : {v : View} {i j : ℕ} (b : ℕ) → RangeIn v i j → v.after i ≤ b → RangeIn v i b
closer b w h = record { up = w.up; to = h }

-- the same row, with less behind it
narrow : {v : View} {a c d : ℕ} (b : ℕ) → Nests v a c d → a < c → v.after a ≤ b → Nests v (v.after a) b d → Nests v a b d
narrow b (over e) l h g = absurd (omega arith)
narrow {v} {a} {c} {d} b (leaf k m e f q r) l h g =
    leaf k m e (subst (λ (x : ℕ). x ≤ b) e h) q (subst (λ (x : ℕ). Nests v x b d) e g)
narrow b (block k w q r n) l h g = block k (closer b w h) q r g
narrow b (two k w t q r n o) l h g = two k (closer b w h) t q r n g
narrow b (pair k w t q r n o) l h g = pair k (closer b w h) t q r n g

split_step : (v : View) (a b c d : ℕ) (r : Bool) → (ltb a (v.after a) && (leb (v.after a) b && r)) ≡ true → Nests v a c d → b ≤ c
    → (r ≡ true → Nests v (v.after a) c d → Nests v (v.after a) b d × Nests v b c d)
    → Nests v a b d × Nests v b c d
split_step v a b c d r e g h rec =
    let x = both (ltb a (v.after a)) (leb (v.after a) b && r) e in
    let y = both (leb (v.after a) b) r x.1 in
    let l = ltb-true a (v.after a) x.0 in
    let m = leb-true (v.after a) b y.0 in
    let n : a < c = omega arith in
    let z = rec y.1 (nests_rest g n) in
    (narrow b g n m z.0, z.1)

split_at : (v : View) (a b c d : ℕ) (t r : Bool) → eqb a b ≡ t → cond t true (ltb a (v.after a) && (leb (v.after a) b && r)) ≡ true
    → Nests v a c d
    → b ≤ c
    → (r ≡ true → Nests v (v.after a) c d → Nests v (v.after a) b d × Nests v b c d)
    → Nests v a b d × Nests v b c d
split_at v a b c d true r q e g h rec = (over (eqb-true a b q), subst (λ (x : ℕ). Nests v x c d) (eqb-true a b q) g)
split_at v a b c d false r q e g h rec = split_step v a b c d r e g h rec

-- a range that nests, cut at a row that is reached from its first
nests_split : (f : ℕ) (v : View) (a b c d : ℕ) → reaches f v a b ≡ true → Nests v a c d → b ≤ c → Nests v a b d × Nests v b c d
unfolding reaches
nests_split zero v a b c d e g h = (over (eqb-true a b e), subst (λ (x : ℕ). Nests v x c d) (eqb-true a b e) g)
nests_split (suc f) v a b c d e g h =
    split_at v a b c d (eqb a b) (reaches f v (v.after a) b) refl e g h (λ q r. nests_split f v (v.after a) b c d q r h)

far : {v : View} {i j : ℕ} → RangeIn v i j → i < j
far w = omega arith

module _ (v : View) (end d i : ℕ) (w : RangeIn v i end) (m : d < MAX_DEPTH) (g : Nests v (suc i) (v.after i) (suc d)) (h : Nests v (v.after i) end d) where
  row_leaf : WRAP_PARENT ≤ v.kind i → v.kind i ≤ LINE_OR_SPACE → is_leaf v i ≡ true → Nests v i end d
  row_leaf a b e =
      let q = eqb-true (v.after i) (suc i) e in
      leaf {i = i} a b q (far w) m (subst (λ (x : ℕ). Nests v x end d) q h)

  row_two : v.kind i ≡ IF_WRAP → has_two v i ≡ true → Nests v i end d
  row_two e r =
      let x =
      both (ltb (suc i) (v.second i) && ltb (v.second i) (v.after i))
      (eqb (v.after (suc i)) (v.second i) && eqb (v.after (v.second i)) (v.after i)) r
      in
      let y = both (ltb (suc i) (v.second i)) (ltb (v.second i) (v.after i)) x.0 in
      let z = both (eqb (v.after (suc i)) (v.second i)) (eqb (v.after (v.second i)) (v.after i)) x.1 in
      let a = eqb-true (v.after (suc i)) (v.second i) z.0 in
      let b = eqb-true (v.after (v.second i)) (v.after i) z.1 in
      let c = ltb-true (suc i) (v.second i) y.0 in
      let k = ltb-true (v.second i) (v.after i) y.1 in
      let n : suc i < v.after i = omega arith in
      let q : Nests v (v.second i) (v.after i) (suc d) = subst (λ (x : ℕ). Nests v x (v.after i) (suc d)) a (nests_rest g n) in
      let p : Nests v (suc i) (v.second i) (suc d) = narrow (v.second i) g n (omega arith) (over a) in
      two e w (record { first = a; second = b; up = c; to = k }) m p q h

  row_pair : v.kind i ≡ CALL → (t r : Bool) → eqb (v.second i) (v.after i) ≡ t → (reaches (v.after i - i) v (suc i) (v.second i)) ≡ r
      → (t || ((ltb i (v.second i) && ltb (v.second i) (v.after i)) && r)) ≡ true
      → Nests v i end d
  row_pair e true r p q x =
      let n : v.after i ≡ v.second i = sym (eqb-true (v.second i) (v.after i) p) in
      let up : i < v.second i = let k = w.up in omega arith in
      pair e w (record { up = up; to = omega arith }) m (subst (λ (x : ℕ). Nests v (suc i) x (suc d)) n g) (over (sym n)) h
  row_pair e false r p q f =
      let x = both (ltb i (v.second i) && ltb (v.second i) (v.after i)) r f in
      let y = both (ltb i (v.second i)) (ltb (v.second i) (v.after i)) x.0 in
      let a = ltb-true i (v.second i) y.0 in
      let b = ltb-true (v.second i) (v.after i) y.1 in
      let to : v.second i ≤ v.after i = omega arith in
      let z = nests_split (v.after i - i) v (suc i) (v.second i) (v.after i) (suc d) (q ∙ x.1) g to in
      pair e w (record { up = a; to = to }) m z.0 z.1 h

  row_call : v.kind i ≡ CALL → is_split v i ≡ true → Nests v i end d
  row_call e r = row_pair e (eqb (v.second i) (v.after i)) (reaches (v.after i - i) v (suc i) (v.second i)) refl refl r

  row_kind : (k : ℕ) → v.kind i ≡ k → parts_fit v i k ≡ true → Nests v i end d
  unfolding parts_fit
  row_kind zero e r = block {i = i} (omega arith) w m g h
  row_kind (suc zero) e r = block {i = i} (omega arith) w m g h
  row_kind (suc (suc zero)) e r = block {i = i} (omega arith) w m g h
  row_kind (suc (suc (suc zero))) e r = row_leaf (omega arith) (omega arith) r
  row_kind (suc (suc (suc (suc zero)))) e r = row_leaf (omega arith) (omega arith) r
  row_kind (suc (suc (suc (suc (suc zero))))) e r = row_leaf (omega arith) (omega arith) r
  row_kind (suc (suc (suc (suc (suc (suc zero)))))) e r = row_leaf (omega arith) (omega arith) r
  row_kind (suc (suc (suc (suc (suc (suc (suc zero))))))) e r = row_leaf (omega arith) (omega arith) r
  row_kind (suc (suc (suc (suc (suc (suc (suc (suc zero)))))))) e r = row_leaf (omega arith) (omega arith) r
  row_kind (suc (suc (suc (suc (suc (suc (suc (suc (suc zero))))))))) e r = row_leaf (omega arith) (omega arith) r
  row_kind (suc (suc (suc (suc (suc (suc (suc (suc (suc (suc zero)))))))))) e r = row_two e r
  row_kind (suc (suc (suc (suc (suc (suc (suc (suc (suc (suc (suc zero))))))))))) e r = row_call e r
  row_kind (suc (suc (suc (suc (suc (suc (suc (suc (suc (suc (suc (suc n)))))))))))) e r = absurd (let z : ◌≡◌ {A = ℕ} 0 1 = cc in omega arith)

-- what a row that fits is
pub record Fits (places : ℕ → Bool) (v : View) (end d i : ℕ) : Type 0 where
  pub shallow : d < MAX_DEPTH
  pub within : RangeIn v i end
  pub parts : parts_fit v i (v.kind i) ≡ true
  pub fit : places i ≡ true

pub fits_row : (places : ℕ → Bool) (v : View) (end d i : ℕ) → row_fits_of places v end d i ≡ true → Fits places v end d i
unfolding row_fits_of
fits_row places v end d i e =
    let x = both (ltb d MAX_DEPTH && (ltb i (v.after i) && leb (v.after i) end)) (parts_fit v i (v.kind i) && places i) e in
    let y = both (ltb d MAX_DEPTH) (ltb i (v.after i) && leb (v.after i) end) x.0 in
    let z = both (ltb i (v.after i)) (leb (v.after i) end) y.1 in
    let u = both (parts_fit v i (v.kind i)) (places i) x.1 in
    record {
      shallow = ltb-true d MAX_DEPTH y.0;
      within = record { up = ltb-true i (v.after i) z.0; to = leb-true (v.after i) end z.1 };
      parts = u.0;
      fit = u.1;
    }

sound_step : (places : ℕ → Bool) (v : View) (end d i : ℕ) (a b : Bool) (r t : Option ℕ) → ltb i end ≡ a → row_fits_of places v end d i ≡ b
    → cond a (cond b (or_later r t) (Some i)) None ≡ None
    → i ≤ end
    → (RangeIn v i end → r ≡ None → Nests v (suc i) (v.after i) (suc d))
    → (RangeIn v i end → t ≡ None → Nests v (v.after i) end d)
    → Nests v i end d
sound_step places v end d i true true r t p q e l f g =
    let x = no_wrong r t e in
    let y = fits_row places v end d i q in
    row_kind v end d i y.within y.shallow (f y.within x.0) (g y.within x.1) (v.kind i) refl y.parts
sound_step places v end d i true false r t p q e l f g = absurd (never i e)
sound_step places v end d i false b r t p q e l f g = over {i = i} {j = end} (let h = ltb-false i end p in omega arith)

sound : (f : ℕ) (places : ℕ → Bool) (v : View) (end d i : ℕ) → first_wrong f places v end d i ≡ None → i ≤ end → end - i ≤ f
    → Nests v i end d
unfolding first_wrong
sound zero places v end d i e l h = over {i = i} {j = end} (omega arith)
sound (suc f) places v end d i e l h =
    sound_step places v end d i
    (ltb i end)
    (row_fits_of places v end d i)
    (first_wrong f places v (v.after i) (suc d) (suc i))
    (first_wrong f places v end d (v.after i))
    refl
    refl
    e
    l
    (λ w q. sound f places v (v.after i) (suc d) (suc i) q w.up (omega arith))
    (λ w q. sound f places v end d (v.after i) q w.to (omega arith))

-- rows with nothing wrong nest
pub accepted_nests : (places : ℕ → Bool) (v : View) (end d i : ℕ) → wrong_row_of places v end d i ≡ None → i ≤ end → Nests v i end d
unfolding wrong_row_of
accepted_nests places v end d i e l = sound (end - i) places v end d i e l (omega arith)

-- What nests, with right places, is accepted.

reach_step : (v : View) (a b d : ℕ) (t r : Bool) → eqb a b ≡ t → Nests v a b d → (a < b → r ≡ true)
    → cond t true (ltb a (v.after a) && (leb (v.after a) b && r)) ≡ true
reach_step v a b d true r e g h = refl
reach_step v a b d false r e g h =
    let n : a < b = lt_of a b (nests_le g) (eqb-false a b e) in
    let w = nests_after g n in
    rw (lt-ltb a (v.after a) w.up, le-leb (v.after a) b w.to) (h n)

reached : (f : ℕ) (v : View) (a b d : ℕ) → Nests v a b d → b - a ≤ f → reaches f v a b ≡ true
unfolding reaches
reached zero v a b d g l = eq-eqb a b (let h = nests_le g in omega arith)
reached (suc f) v a b d g l =
    reach_step v a b d
    (eqb a b)
    (reaches f v (v.after a) b)
    refl
    g
    (λ n. reached f v (v.after a) b d (nests_rest g n) (let w = (nests_after g n).up in omega arith))

two_fits : (v : View) (i : ℕ) → TwoParts v i → has_two v i ≡ true
two_fits v i t =
    rw (
      eq-eqb (v.after (suc i)) (v.second i) t.first,
      eq-eqb (v.after (v.second i)) (v.after i) t.second,
      lt-ltb (suc i) (v.second i) t.up,
      lt-ltb (v.second i) (v.after i) t.to,
    )

call_fits : (v : View) (i d : ℕ) → Split v i → Nests v (suc i) (v.second i) (suc d) → is_split v i ≡ true
call_fits v i d t g = go (eqb (v.second i) (v.after i)) refl
  where
    go : (x : Bool) → eqb (v.second i) (v.after i) ≡ x
        → (x || ((ltb i (v.second i) && ltb (v.second i) (v.after i)) && reaches (v.after i - i) v (suc i) (v.second i))) ≡ true
    go true e = refl
    go false e =
        let n : v.second i < v.after i = let a = t.to in let b = eqb-false (v.second i) (v.after i) e in lt_of (v.second i) (v.after i) a b in
        rw (lt-ltb i (v.second i) t.up, lt-ltb (v.second i) (v.after i) n)
        (reached (v.after i - i) v (suc i) (v.second i) (suc d) g (let a = t.to in let b = t.up in omega arith))

kind_fits : (v : View) (i end d k : ℕ) → v.kind i ≡ k → Nests v i end d → i < end → parts_fit v i k ≡ true
unfolding parts_fit
kind_fits v i end d zero e g h = refl
kind_fits v i end d (suc zero) e g h = refl
kind_fits v i end d (suc (suc zero)) e g h = refl
kind_fits v i end d (suc (suc (suc zero))) e g h = eq-eqb (v.after i) (suc i) (nests_leaf g h (omega arith) (omega arith)).next
kind_fits v i end d (suc (suc (suc (suc zero)))) e g h = eq-eqb (v.after i) (suc i) (nests_leaf g h (omega arith) (omega arith)).next
kind_fits v i end d (suc (suc (suc (suc (suc zero))))) e g h = eq-eqb (v.after i) (suc i) (nests_leaf g h (omega arith) (omega arith)).next
kind_fits v i end d (suc (suc (suc (suc (suc (suc zero)))))) e g h = eq-eqb (v.after i) (suc i) (nests_leaf g h (omega arith) (omega arith)).next
kind_fits v i end d (suc (suc (suc (suc (suc (suc (suc zero))))))) e g h =
    eq-eqb (v.after i) (suc i) (nests_leaf g h (omega arith) (omega arith)).next
kind_fits v i end d (suc (suc (suc (suc (suc (suc (suc (suc zero)))))))) e g h =
    eq-eqb (v.after i) (suc i) (nests_leaf g h (omega arith) (omega arith)).next
kind_fits v i end d (suc (suc (suc (suc (suc (suc (suc (suc (suc zero))))))))) e g h =
    eq-eqb (v.after i) (suc i) (nests_leaf g h (omega arith) (omega arith)).next
kind_fits v i end d (suc (suc (suc (suc (suc (suc (suc (suc (suc (suc zero)))))))))) e g h = two_fits v i (nests_two g h e).0
kind_fits v i end d (suc (suc (suc (suc (suc (suc (suc (suc (suc (suc (suc zero))))))))))) e g h =
    call_fits v i d (nests_pair g h e).split (nests_pair g h e).first
kind_fits v i end d (suc (suc (suc (suc (suc (suc (suc (suc (suc (suc (suc (suc k)))))))))))) e g h =
    absurd (let z = nests_kind g h in omega arith)

row_fits : (places : ℕ → Bool) (v : View) (end d i : ℕ) → Nests v i end d → i < end → places i ≡ true → row_fits_of places v end d i ≡ true
unfolding row_fits_of
row_fits places v end d i g h q =
    let w = nests_after g h in
    rw (lt-ltb i (v.after i) w.up, le-leb (v.after i) end w.to, lt-ltb d MAX_DEPTH (nests_deep g h), kind_fits v i end d (v.kind i) refl g h) q

-- a row's parts as one range
pub parts_nest : {v : View} {i end d : ℕ} → Nests v i end d → i < end → Nests v (suc i) (v.after i) (suc d)
parts_nest (over e) h = absurd (omega arith)
parts_nest (leaf k l e f q g) h = over (sym e)
parts_nest (block k w q g r) h = g
parts_nest (two k w t q g l r) h = nests_join g l
parts_nest (pair k w t q g l r) h = nests_join g l

complete_step : (places : ℕ → Bool) (v : View) (end d i : ℕ) (a : Bool) (r t : Option ℕ) → ltb i end ≡ a → Nests v i end d
    → (i < end → places i ≡ true)
    → (i < end → r ≡ None)
    → (i < end → t ≡ None)
    → cond a (cond (row_fits_of places v end d i) (or_later r t) (Some i)) None ≡ None
complete_step places v end d i true r t e g q f h =
    let l = ltb-true i end e in
    rw (row_fits places v end d i g l (q l), f l) (h l)
complete_step places v end d i false r t e g q f h = refl

-- rows that nest, and whose places are right, have nothing wrong
pub complete : (f : ℕ) (places : ℕ → Bool) (v : View) (end d i : ℕ) → Nests v i end d → ((k : ℕ) → i ≤ k → k < end → places k ≡ true)
    → first_wrong f places v end d i ≡ None
unfolding first_wrong
complete zero places v end d i g q = refl
complete (suc f) places v end d i g q =
    complete_step places v end d i
    (ltb i end)
    (first_wrong f places v (v.after i) (suc d) (suc i))
    (first_wrong f places v end d (v.after i))
    refl
    g
    (λ l. q i (omega arith) l)
    (λ l.
    let w = nests_after g l in
    complete f places v (v.after i) (suc d) (suc i) (parts_nest g l) (λ k a b. q k (omega arith) (let z = w.to in omega arith)))
    (λ l. let w = nests_after g l in complete f places v end d (v.after i) (nests_rest g l) (λ k a b. q k (let z = w.up in omega arith) b))

pub nested_accepted : (places : ℕ → Bool) (v : View) (end d i : ℕ) → Nests v i end d → ((k : ℕ) → i ≤ k → k < end → places k ≡ true)
    → wrong_row_of places v end d i ≡ None
unfolding wrong_row_of
nested_accepted places v end d i g q = complete (end - i) places v end d i g q

pub fault_of_part : FaultOfPart
unfolding reaches parts_fit row_fits_of first_wrong wrong_row_of places_fit wrong_place view_of
fault_of_part = refl
