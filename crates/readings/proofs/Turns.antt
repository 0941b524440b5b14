-- The turns of the walk on its stack. Assumes nothing.
use Rattle.std.proofs.Common.{◌≡◌, ℕ, zero, suc, ◌+◌, ◌-◌, ◌<◌, ◌≤◌, List, [], ◌∷◌, ◌++◌, length, get_or, take, drop, set, Some, sym, refl, ap, ◌∙◌, subst, subst₂, add-one, arith, length-append, length-set, length-take, length-drop, drop-cons, drop-drop, take-suc-set, drop-set-lt}
use Rattle.std.proofs.lemmas.List.{take_all}
use Rattle.grammar.specs.declared.Symbol.{Symbol}
use Rattle.grammar.specs.declared.Symbol.TheVariants.{Name, Word}
use Rattle.grammar.specs.declared.Rule.{Rule}
use Rattle.grammar.specs.Grammar.{right}
use Rattle.readings.specs.Scales.{Scale, Laws}
use Rattle.readings.specs.Prices.{nth}
use Rattle.readings.specs.inner.Tables.{Table, CutAt, Chosen, Recorded}
use Rattle.readings.specs.inner.Walks.{Frame, turns, Walk}
use Rattle.readings.specs.inner.Places.{packed, frames, Sound}
use Rattle.readings.specs.inner.Stages.{Reads, Unpacked, Stage, Turned, Longer}
use Rattle.readings.proofs.Rows.{name_child}
use Rattle.readings.proofs.Walks.{frame, chosen_upto, walk_leave, walk_word, walk_none, walk_some, turns_leave, turns_word, turns_none, turns_some}
use Rattle.readings.proofs.Places.{unpacked_packed, frames_push, sound_set}

-- ---- the list

-- one number is written
pub longer_one : (xs : List ℕ) (n v : ℕ) → n < length xs → Longer xs n (set xs n v) (n + 1)
longer_one xs n v h = record { more = omega arith; within = rw (length-set xs n v) (omega arith); rest = drop-set-lt (n + 1) xs n v (omega arith) }

pub longer_then : (xs ys zs : List ℕ) (l m n : ℕ) → Longer xs l ys m → Longer ys m zs n → Longer xs l zs n
longer_then xs ys zs l m n a b =
    let e : m + (n - m) ≡ n = omega (arith, b.more) in
    record {
      more = omega (arith, a.more, b.more);
      within = b.within;
      rest = b.rest ∙ (rw (← e, ← (drop-drop (n - m) m ys), ← (drop-drop (n - m) m xs)) (ap (drop (n - m)) a.rest));
    }

pub taken_one : (xs : List ℕ) (n v : ℕ) → n < length xs → take (n + 1) (set xs n v) ≡ take n xs ++ (v ∷ [])
taken_one xs n v h = rw (add-one n) (take-suc-set xs n v h)

-- ---- the stack

module _ {P : Type 0} (rules : List Rule) (t : Table P) where
  -- the frames with another on top
  pub frames_packed : (st : List ℕ) (h i j a d m : ℕ) → h < length st → j < 32 → a < 32 → d < 32 → m < 32
      → frames rules t (set st h (packed i j a d m)) (suc h) ≡ frame i j (t.rank i j a) m (drop d (right (nth rules (t.by i j a)))) ∷ frames rules t st h
  frames_packed st h i j a d m l x y z w = frames_push rules t st h (packed i j a d m) l ∙ ap (λ (f : Frame). f ∷ frames rules t st h) (unpacked_packed rules t i j a d m x y z w)

  -- the frame on top
  pub frames_top : (st : List ℕ) (top h i j a d m k r : ℕ) → h ≡ suc top → Unpacked (get_or st top 0) i j a d m → k ≡ t.rank i j a → r ≡ t.by i j a
      → frames rules t st h ≡ frame i j k m (drop d (right (nth rules r))) ∷ frames rules t st top
  frames_top st top h i j a d m k r e u x y = rw (e, x, y, u.i_is, u.j_is, u.a_is, u.d_is, u.m_is)

  pub sound_top : (st : List ℕ) (top h i j a d m r : ℕ) → h ≡ suc top → Unpacked (get_or st top 0) i j a d m → r ≡ t.by i j a → Sound rules t st h → r < length rules
  sound_top st top h i j a d m r e u y s = rw (y, u.i_is, u.j_is, u.a_is) (s top (omega arith))

  sound_less : (st : List ℕ) (top h : ℕ) → top ≤ h → Sound rules t st h → Sound rules t st top
  sound_less st top h l s x y = s x (omega arith)

  length_frames : (st : List ℕ) (h : ℕ) → length (frames rules t st h) ≡ h
  length_frames st zero = refl
  length_frames st (suc h) = ap suc (length_frames st h)

-- a right side is no longer than its rule says
pub length_right : (n : ℕ) (s : List Symbol) → n ≤ 8 → length (take n s) ≤ 8
length_right n s h = rw (length-take n s) (omega arith)

-- the stack is as high as it is deep
pub stage_height : {P : Type 0} {rules : List Rule} {S : Scale P} {ws : List ℕ} {t : Table P} {goal : ℕ} {st : List ℕ} {out : List ℕ} (top h : ℕ) → h ≡ suc top → Stage rules S ws t goal st h out → h ≤ 640
stage_height {P} {rules} {S} {ws} {t} {goal} {st} {out} top h e w =
    let s = subst (λ (n : ℕ). Stage rules S ws t goal st n out) e w in
    omega (arith, s.walk.deep.0, length_frames rules t st top)

-- the symbols from the d-th on, where the d-th is n
pub next_symbol : (s : List Symbol) (d : ℕ) (n : Symbol) → d < length s → get_or s d (Name 0) ≡ n → drop d s ≡ n ∷ drop (d + 1) s
next_symbol s d n h e = rw (add-one d) (drop-cons s d (Name 0) h ∙ ap (λ (x : Symbol). x ∷ drop (suc d) s) e)

-- all that is left of a list
pub rest_all : (s : List Symbol) (d : ℕ) → take (length s - d) (drop d s) ≡ drop d s
rest_all s d = take_all (length s - d) (drop d s) (omega (arith, length-drop d s))

-- ---- a turn

-- one symbol is left
pub some_left : (s : List Symbol) (d : ℕ) → d < length s → 0 < length (take (length s - d) (drop d s))
some_left s d h = rw (rest_all s d) (omega (arith, length-drop d s))

module _ {P : Type 0} {rules : List Rule} {S : Scale P} {ws : List ℕ} {t : Table P} {goal : ℕ} {st : List ℕ} {top h i j a d m : ℕ} {out : List ℕ} (L : Laws S) (R : Recorded rules S ws t)
    (e : h ≡ suc top) (u : Unpacked (get_or st top 0) i j a d m) (w : Stage rules S ws t goal st h out) where
  -- where the frame on top stands
  pub top_open : (i < j) × (i ≤ m) × (m ≤ j) × (j ≤ length ws)
  top_open =
      let v = subst (λ (fs : List Frame). Walk rules S ws t (Reads rules S ws t goal) fs out) (frames_top rules t st top h i j a d m (t.rank i j a) (t.by i j a) e u refl refl) w.walk in
      (v.opened.0.before, v.opened.0.from, v.opened.0.upto, v.opened.0.within)

  module _ {k r : ℕ} (x : k ≡ t.rank i j a) (y : r ≡ t.by i j a) where
    below : List Frame
    below = frames rules t st top

    tops : (s : List Symbol) → drop d (right (nth rules r)) ≡ s → frames rules t st h ≡ frame i j k m s ∷ frames rules t st top
    tops s z = frames_top rules t st top h i j a d m k r e u x y ∙ ap (λ (l : List Symbol). frame i j k m l ∷ frames rules t st top) z

    pub top_listed : r < length rules
    top_listed = sound_top rules t st top h i j a d m r e u y w.sound

    walk_top : (s : List Symbol) → drop d (right (nth rules r)) ≡ s → Walk rules S ws t (Reads rules S ws t goal) (frame i j k m s ∷ frames rules t st top) out
    walk_top s z = subst (λ (fs : List Frame). Walk rules S ws t (Reads rules S ws t goal) fs out) (tops s z) w.walk

    -- what is left of the frame on top can be cut
    pub top_cut : (s : List Symbol) → drop d (right (nth rules r)) ≡ s → (c : P) × CutAt S ws t i j k s m (Some c)
    top_cut s z = let v = walk_top s z in (v.opened.0.cut, v.opened.0.least)

    -- the frame on top: where it stands, its rule, its height and its name
    pub top_facts : (i < j) × (i ≤ m) × (m ≤ j) × (j ≤ length ws) × (r < length rules) × (h ≤ 640) × (a < 32)
    top_facts = let o = top_open in (o.0, o.1, o.2, o.3, top_listed, stage_height top h e w, omega (arith, u.a_is))

    -- the frame's next symbol, and where its stretch ends
    pub next_facts : (n : Symbol) (to : ℕ) → d < length (right (nth rules r)) → get_or (right (nth rules r)) d (Name 0) ≡ n
        → ((s' : List Symbol) (n' : Symbol) (c : P) → take (length (right (nth rules r)) - d) (drop d (right (nth rules r))) ≡ n' ∷ s' → CutAt S ws t i j k (take (length (right (nth rules r)) - d) (drop d (right (nth rules r)))) m (Some c) → Chosen S ws t i j k m n' s' to)
        → (drop d (right (nth rules r)) ≡ n ∷ drop (d + 1) (right (nth rules r))) × Chosen S ws t i j k m n (drop (d + 1) (right (nth rules r))) to × (m ≤ to) × (to ≤ j)
    next_facts n to b q f =
        let z = next_symbol (right (nth rules r)) d n b q in
        let v = rest_all (right (nth rules r)) d ∙ z in
        let c = top_cut (n ∷ drop (d + 1) (right (nth rules r))) z in
        let x = f (drop (d + 1) (right (nth rules r))) n c.0 v (subst (λ (l : List Symbol). CutAt S ws t i j k l m (Some c.0)) (sym v) c.1) in
        (z, x, x.ordered, chosen_upto S ws t i j k m to n (drop (d + 1) (right (nth rules r))) x)

    -- from one list of frames to the next
    turned : (fs fs' : List Frame) (st' : List ℕ) (h' : ℕ) (out' : List ℕ) → frames rules t st h ≡ fs → frames rules t st' h' ≡ fs' → Walk rules S ws t (Reads rules S ws t goal) fs' out' → turns fs' < turns fs → Sound rules t st' h'
        → Turned rules S ws t goal st h st' h' out'
    turned fs fs' st' h' out' p q v l s =
        record {
          stage = record { walk = subst (λ (z : List Frame). Walk rules S ws t (Reads rules S ws t goal) z out') (sym q) v; sound = s };
          fewer = rw (p, q) l;
        }

    pub turn_leave : drop d (right (nth rules r)) ≡ [] → Turned rules S ws t goal st h st top out
    turn_leave z =
        turned (frame i j k m [] ∷ frames rules t st top) (frames rules t st top) st top out (tops [] z) refl
        (walk_leave rules S L ws t R (Reads rules S ws t goal) i j k m (frames rules t st top) out (walk_top [] z))
        (turns_leave rules S L ws t R (Reads rules S ws t goal) i j k m (frames rules t st top) out) (sound_less rules t st top h (omega arith) w.sound)

    module _ (to : ℕ) (l : top < length st) (b₁ : j < 32) (b₃ : d + 1 < 32) where
      -- the frame on top with its next symbol written
      next : to < 32 → frames rules t (set st top (packed i j a (d + 1) to)) h ≡ frame i j k to (drop (d + 1) (right (nth rules r))) ∷ frames rules t st top
      next b = rw (e, x, y) (frames_packed rules t st top i j a (d + 1) to l b₁ (omega (arith, u.a_is)) b₃ b)

      next_sound : to < 32 → Sound rules t (set st top (packed i j a (d + 1) to)) h
      next_sound b =
          let f : top + 1 ≡ h = omega arith in
          subst (Sound rules t (set st top (packed i j a (d + 1) to))) f
          (sound_set rules t st top i j a (d + 1) to b₁ (omega (arith, u.a_is)) b₃ b l (rw (← y) top_listed) (sound_less rules t st top h (omega arith) w.sound))

      pub turn_word : (v : ℕ) → drop d (right (nth rules r)) ≡ Word v ∷ drop (d + 1) (right (nth rules r)) → Chosen S ws t i j k m (Word v) (drop (d + 1) (right (nth rules r))) to
          → Turned rules S ws t goal st h (set st top (packed i j a (d + 1) to)) h out
      turn_word v z c =
          let b : to < 32 = omega (arith, chosen_upto S ws t i j k m to (Word v) (drop (d + 1) (right (nth rules r))) c) in
          turned (frame i j k m (Word v ∷ drop (d + 1) (right (nth rules r))) ∷ frames rules t st top) (frame i j k to (drop (d + 1) (right (nth rules r))) ∷ frames rules t st top) (set st top (packed i j a (d + 1) to)) h out (tops _ z) (next b)
          (walk_word rules S L ws t R (Reads rules S ws t goal) i j k m (frames rules t st top) out to v _ c (walk_top _ z))
          (turns_word rules S L ws t R (Reads rules S ws t goal) i j k m (frames rules t st top) out to v _ c (walk_top _ z)) (next_sound b)

      module _ (b : ℕ) (z : drop d (right (nth rules r)) ≡ Name b ∷ drop (d + 1) (right (nth rules r))) (c : Chosen S ws t i j k m (Name b) (drop (d + 1) (right (nth rules r))) to) where
        upto : to < 32
        upto = omega (arith, chosen_upto S ws t i j k m to (Name b) (drop (d + 1) (right (nth rules r))) c)

        none_walk : to ≡ m → Walk rules S ws t (Reads rules S ws t goal) (frame i j k to (drop (d + 1) (right (nth rules r))) ∷ frames rules t st top) (out ++ (0 ∷ []))
        none_walk q =
            subst (λ (n : ℕ). Walk rules S ws t (Reads rules S ws t goal) (frame i j k n (drop (d + 1) (right (nth rules r))) ∷ frames rules t st top) (out ++ (0 ∷ []))) (sym q)
            (walk_none rules S L ws t R (Reads rules S ws t goal) i j k m (frames rules t st top) out b _ (subst (Chosen S ws t i j k m (Name b) (drop (d + 1) (right (nth rules r)))) q c) (walk_top _ z))

        pub none_room : to ≡ m → length out < 9984
        none_room q = omega (arith, (none_walk q).fits, length-append out (0 ∷ []))

        pub turn_none : to ≡ m → Turned rules S ws t goal st h (set st top (packed i j a (d + 1) to)) h (out ++ (0 ∷ []))
        turn_none q =
            turned (frame i j k m (Name b ∷ drop (d + 1) (right (nth rules r))) ∷ frames rules t st top) (frame i j k to (drop (d + 1) (right (nth rules r))) ∷ frames rules t st top) (set st top (packed i j a (d + 1) to)) h (out ++ (0 ∷ [])) (tops _ z) (next upto)
            (none_walk q)
            (subst (λ (n : ℕ). turns (frame i j k n (drop (d + 1) (right (nth rules r))) ∷ frames rules t st top) < turns (frame i j k m (Name b ∷ drop (d + 1) (right (nth rules r))) ∷ frames rules t st top)) (sym q)
            (turns_none rules S L ws t R (Reads rules S ws t goal) i j k m (frames rules t st top) out b _)) (next_sound upto)

        -- the name has a rule
        pub some_listed : t.by m to b < length rules
        some_listed = (R m to b c.head (name_child S ws t i j k b m to c.head c.priced).0).listed

        module _ (q : m < to) (f : length (right (nth rules (t.by m to b))) ≤ 8) where
          some_walk : Walk rules S ws t (Reads rules S ws t goal) (frame m to (t.rank m to b) m (right (nth rules (t.by m to b))) ∷ (frame i j k to (drop (d + 1) (right (nth rules r))) ∷ frames rules t st top)) (out ++ (suc (t.by m to b) ∷ []))
          some_walk = walk_some rules S L ws t R (Reads rules S ws t goal) i j k m (frames rules t st top) out to b _ q f c (walk_top _ z)

          pub some_room : (length out < 9984) × (h < 640)
          some_room = (omega (arith, some_walk.fits, length-append out (suc (t.by m to b) ∷ [])), omega (arith, some_walk.deep.0, length_frames rules t st top))

          pub turn_some : (n : ℕ) → n ≡ t.by m to b → h < length st → b < 32 → Turned rules S ws t goal st h (set (set st top (packed i j a (d + 1) to)) h (packed m to b 0 m)) (h + 1) (out ++ ((n + 1) ∷ []))
          turn_some n p lh lb =
              turned (frame i j k m (Name b ∷ drop (d + 1) (right (nth rules r))) ∷ frames rules t st top) (frame m to (t.rank m to b) m (right (nth rules (t.by m to b))) ∷ (frame i j k to (drop (d + 1) (right (nth rules r))) ∷ frames rules t st top)) (set (set st top (packed i j a (d + 1) to)) h (packed m to b 0 m)) (h + 1) (out ++ ((n + 1) ∷ [])) (tops _ z)
              (rw (add-one h) (frames_packed rules t (set st top (packed i j a (d + 1) to)) h m to b 0 m (rw (length-set st top (packed i j a (d + 1) to)) lh) upto lb (omega arith) (omega arith) ∙ ap (λ (fs : List Frame). frame m to (t.rank m to b) m (right (nth rules (t.by m to b))) ∷ fs) (next upto)))
              (rw (add-one n, p) some_walk)
              (turns_some rules S L ws t R (Reads rules S ws t goal) i j k m (frames rules t st top) out to b _ q f c (walk_top _ z))
              (sound_set rules t (set st top (packed i j a (d + 1) to)) h m to b 0 m upto lb (omega arith) (omega arith) (rw (length-set st top (packed i j a (d + 1) to)) lh) some_listed (next_sound upto))

-- the same of lists that are equal
pub turned_as : {P : Type 0} {rules : List Rule} {S : Scale P} {ws : List ℕ} {t : Table P} {goal h h' : ℕ} {st : List ℕ} {st' st'' : List ℕ} {out' out'' : List ℕ} → st'' ≡ st' → out'' ≡ out' → Turned rules S ws t goal st h st' h' out' → Turned rules S ws t goal st h st'' h' out''
turned_as {P} {rules} {S} {ws} {t} {goal} {h} {h'} {st} p q w = subst₂ (λ (x y : List ℕ). Turned rules S ws t goal st h x h' y) (sym p) (sym q) w

-- the same of a name that is equal
pub renamed : {P : Type 0} {rules : List Rule} {S : Scale P} {ws : List ℕ} {t : Table P} {st : List ℕ} {h : ℕ} {out : List ℕ} {a b : ℕ} → b ≡ a → Stage rules S ws t a st h out → Stage rules S ws t b st h out
renamed {P} {rules} {S} {ws} {t} {st} {h} {out} {a} {b} e w = subst (λ (n : ℕ). Stage rules S ws t n st h out) (sym e) w
