-- Laws of sound steps: each way of joining steps has one.
-- Assumes nothing.
use Prim.Native.Nat.{ℕ, ◌+◌, ◌*◌, ◌≤◌, ◌<◌, max}
use mathlib.Core.Path.{◌≡◌, refl}
use mathlib.Core.Bool.{Bool, true, false, cond}
use native.Mathlib.Omega.{arith}
use lib.ListN.{length}
use Rattle.rows.specs.Node.{Text, Node, Nodes, wrap_parent, comment, str, ascii, line, empty_line, line_or_space, if_wrap, none, ◌then◌, join}
use Rattle.rows.specs.Rows.{size, sizes, depth, depths}
use Rattle.acts.specs.Act.{Given, St, Out, Act, Asking, next, ◌⨟◌, ◌⨟?◌, skip, when, push, move_to, step_alone, grouped, indented, indented_next}
use Rattle.acts.specs.Act.{called}
use Rattle.acts.proofs.Joins.{sizes_join}
use Rattle.layout_facts.specs.Sound.{Inside, Supplied, TextsOf, TextsIn, ROW_TAKES, Sound, Sounds}

depths_join : (ns ms : Nodes) → depths (join ns ms) ≡ max (depths ns) (depths ms)
unfolding depths join
depths_join none ms = omega arith
depths_join (n then ns) ms = omega (arith, depths_join ns ms)

texts_join : (g : Given) (ns ms : Nodes) → TextsIn g ns → TextsIn g ms → TextsIn g (join ns ms)
unfolding TextsIn join
texts_join g none ms p q = q
texts_join g (n then ns) ms p q = (p.0, texts_join g ns ms p.1 q)

-- ---- one step after the other
pub sound_then : {g : Given} (a b : Act) (s : St) {m n d : ℕ} → Sound g m d s (a s) → Sound g n d (next s (a s)) (b (next s (a s)))
    → Sound g (m + n) d s ((a ⨟ b) s)
unfolding ◌⨟◌
sound_then {g} a b s {m} {n} {d} p q =
    let ns : Nodes = (a s).nodes in
    let ms : Nodes = (b (next s (a s))).nodes in
    record {
      more = omega arith;
      rows = omega (arith, sizes_join ns ms);
      taken = omega arith;
      deep = omega (arith, depths_join ns ms);
      texts = texts_join g ns ms p.texts q.texts;
      position = λ h. q.position (p.position h);
    }

pub ◌⨾◌ : {g : Given} {a b : Act} {m n d : ℕ} → Sounds g m d a → Sounds g n d b → Sounds g (m + n) d (a ⨟ b)
◌⨾◌ {g} {a} {b} p q = record { from = λ s. sound_then a b s (p.from s) (q.from (next s (a s))) }

infixr 50 ◌⨾◌
-- fewer and less deep is sound too
pub wider : {g : Given} {a : Act} {m n d e : ℕ} → Sounds g m d a → m ≤ n → d ≤ e → Sounds g n e a
wider {g} {a} {m} {n} {d} {e} p h i =
    record {
      from =
          λ s.
          let r : Sound g m d s (a s) = p.from s in
          record {
            more = r.more;
            rows = omega arith;
            taken = omega arith;
            deep = omega arith;
            texts = r.texts;
            position = r.position;
          };
    }

pub fewer : {g : Given} {a : Act} {m n d : ℕ} → Sounds g m d a → m ≤ n → Sounds g n d a
fewer p h = wider p h (omega arith)

pub deeper : {g : Given} {a : Act} {n d e : ℕ} → Sounds g n d a → d ≤ e → Sounds g n e a
deeper p h = wider p (omega arith) h

-- ---- steps that push no nodes
pub sound_skip : {g : Given} {d : ℕ} → Sounds g 0 d skip
unfolding sizes depths TextsIn
sound_skip =
    record {
      from =
          λ s.
          record { more = omega arith; rows = omega arith; taken = omega arith; deep = omega arith; texts = tt; position = λ h. h };
    }

pub sound_move_to : {g : Given} {d p : ℕ} → p ≤ length g.source → Sounds g 0 d (move_to p)
unfolding sizes depths TextsIn
sound_move_to {g} {d} {p} h =
    record {
      from =
          λ s.
          record { more = omega arith; rows = omega arith; taken = omega arith; deep = omega arith; texts = tt; position = λ i. h };
    }

-- ---- a node without parts
pub sound_push : {g : Given} {d : ℕ} (n : Node) → size n ≡ 1 → depth n ≡ 1 → TextsOf g n → Sounds g ROW_TAKES d (push n)
unfolding sizes depths TextsIn
sound_push n one top t =
    record {
      from =
          λ s.
          record {
            more = omega arith;
            rows = omega (arith, one);
            taken = omega arith;
            deep = omega (arith, top);
            texts = (t, tt);
            position = λ h. h;
          };
    }

pub sound_line : {g : Given} {d : ℕ} → Sounds g ROW_TAKES d (push line)
unfolding size depth TextsOf
sound_line = sound_push line refl refl tt

pub sound_empty_line : {g : Given} {d : ℕ} → Sounds g ROW_TAKES d (push empty_line)
unfolding size depth TextsOf
sound_empty_line = sound_push empty_line refl refl tt

pub sound_line_or_space : {g : Given} {d : ℕ} → Sounds g ROW_TAKES d (push line_or_space)
unfolding size depth TextsOf
sound_line_or_space = sound_push line_or_space refl refl tt

pub sound_wrap_parent : {g : Given} {d : ℕ} → Sounds g ROW_TAKES d (push wrap_parent)
unfolding size depth TextsOf
sound_wrap_parent = sound_push wrap_parent refl refl tt

pub sound_ascii : {g : Given} {d : ℕ} {t : Text} → Inside g t → Sounds g ROW_TAKES d (push (ascii t))
unfolding size depth TextsOf
sound_ascii {t = t} i = sound_push (ascii t) refl refl i

pub sound_str : {g : Given} {d w : ℕ} {t : Text} → Inside g t → Supplied g w t → Sounds g ROW_TAKES d (push (str w t))
unfolding size depth TextsOf
sound_str {w = w} {t = t} i p = sound_push (str w t) refl refl (i, p)

pub sound_comment : {g : Given} {d : ℕ} {t : Text} → Inside g t → Sounds g ROW_TAKES d (push (comment t))
unfolding size depth TextsOf
sound_comment {t = t} i = sound_push (comment t) refl refl i

pub sound_if_wrap : {g : Given} {d n : ℕ} {t u : Text} → 1 ≤ d → Inside g t → Inside g u → Sounds g (3 * ROW_TAKES) d (push (if_wrap n (ascii t) (ascii u)))
unfolding size sizes depth depths TextsIn
sound_if_wrap {d = d} h i j =
    record {
      from =
          λ s.
          record {
            more = omega arith;
            rows = omega arith;
            taken = omega arith;
            deep = omega arith;
            texts = ((i, j), tt);
            position = λ h. h;
          };
    }

-- ---- choices
pub sound_when : {g : Given} (t : Bool) {a : Act} {n d : ℕ} → Sounds g n d a → Sounds g n d (when t a)
sound_when true p = p
sound_when false p = fewer sound_skip (omega arith)

pub sound_cond : {g : Given} (t : Bool) {a b : Act} {n d : ℕ} → Sounds g n d a → Sounds g n d b → Sounds g n d (cond t a b)
sound_cond true p q = p
sound_cond false p q = q

-- ---- nodes with parts: one level deeper
pub sound_grouped : {g : Given} {a : ℕ → Act} {n c d : ℕ} → c < d → ((k : ℕ) → Sounds g n c (a k)) → Sounds g (ROW_TAKES + n) d (grouped a)
unfolding grouped sizes depths TextsIn
sound_grouped {g} {a} {n} {c} {d} h p =
    record {
      from =
          λ s.
          let s' : St = record { number = s.number + 1; pos = s.pos; placed = s.placed } in
          let r : Sound g n c s' (a s.number s') = (p s.number).from s' in
          record {
            more = r.more;
            rows = omega (arith, r.rows);
            taken = omega (arith, r.taken);
            deep = omega (arith, r.deep);
            texts = (r.texts, tt);
            position = r.position;
          };
    }

pub sound_indented : {g : Given} {a : Act} {n c d : ℕ} → c < d → Sounds g n c a → Sounds g (ROW_TAKES + n) d (indented a)
unfolding indented sizes depths TextsIn
sound_indented {g} {a} {n} {c} {d} h p =
    record {
      from =
          λ s.
          let r : Sound g n c s (a s) = p.from s in
          record {
            more = r.more;
            rows = omega (arith, r.rows);
            taken = omega (arith, r.taken);
            deep = omega (arith, r.deep);
            texts = (r.texts, tt);
            position = r.position;
          };
    }

pub sound_indented_next : {g : Given} {a : Act} {n c d : ℕ} → c < d → Sounds g n c a → Sounds g (ROW_TAKES + n) d (indented_next a)
unfolding indented_next sizes depths TextsIn
sound_indented_next {g} {a} {n} {c} {d} h p =
    record {
      from =
          λ s.
          let r : Sound g n c s (a s) = p.from s in
          record {
            more = r.more;
            rows = omega (arith, r.rows);
            taken = omega (arith, r.taken);
            deep = omega (arith, r.deep);
            texts = (r.texts, tt);
            position = r.position;
          };
    }

pub sound_called : {g : Given} {e a : Act} {m n c d : ℕ} → c < d → Sounds g m c e → Sounds g n c a → Sounds g (2 * ROW_TAKES + (m + n)) d (called e a)
unfolding called sizes depths TextsIn
sound_called {g} {e} {a} {m} {n} {c} {d} h p q =
    record {
      from =
          λ s.
          let s' : St = record { number = s.number + 2; pos = s.pos; placed = s.placed } in
          let o : Out = e s' in
          let s'' : St = record { number = s.number + 2 + o.taken; pos = o.pos; placed = o.placed } in
          let x : Sound g m c s' (e s') = p.from s' in
          let y : Sound g n c s'' (a s'') = q.from s'' in
          record {
            more = omega (arith, x.more, y.more);
            rows = omega (arith, x.rows, y.rows, x.more, y.more);
            taken = omega (arith, x.taken, y.taken);
            deep = omega (arith, x.deep, y.deep);
            texts = ((x.texts, y.texts), tt);
            position = λ i. y.position (x.position i);
          };
    }

-- ---- a step that answers, and then one that goes by the answer
pub sound_asks : {A : Type 0} {g : Given} (a : Asking A) {k : A → Act} {m n d : ℕ} → Sounds g m d (step_alone a) → ((b : A) → Sounds g n d (k b))
    → Sounds g (m + n) d (a ⨟? k)
unfolding ◌⨟?◌
sound_asks a {k} p q = record { from = λ s. (p ⨾ q (a s).1).from s }
