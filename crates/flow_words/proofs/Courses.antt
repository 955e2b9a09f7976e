-- Laws of courses.
use Rattle.std.proofs.Common.{◌≡◌, ℕ, Bool, true, false, List, [], ◌∷◌, ◌++◌, refl, sym, subst}
use Rattle.std.specs.Prelude.{if◌then◌else◌}
use Rattle.device_model.specs.declared.calls.Answer.TheVariants.{NotStarted}
use Rattle.device_model.specs.declared.calls.Event.{Event}
use Rattle.device_model.specs.declared.calls.Event.TheVariants.{Start, End, Pause, Loss}
use Rattle.device_model.specs.declared.calls.Call.TheVariants.{Script}
use Rattle.flow_words.specs.declared.mode.Mode.{Mode}
use Rattle.flow_words.specs.declared.mode.Mode.TheVariants.{Checked, Ignored, Once}
use Rattle.flow_words.specs.Scripts.{block, step, run, IsIgnored}
use Rattle.flow_words.specs.Course.{Course, call, done, say, hear, and_then, Whole, Part, Follows}

-- the empty list is a part
pub Part-empty : {A : Type 0} (t : Course A) → Part t []
Part-empty t = tt

-- a whole word is a part
pub Part-whole : {A : Type 0} (t : Course A) (w : List Event) (r : A) → Whole t w r → Part t w
Part-whole t [] r h = tt
Part-whole (done s) (e ∷ w) r h = h
Part-whole (say d t) (e ∷ w) r h = (h.0, Part-whole t w r h.1)
Part-whole (hear f) (End a ∷ w) r h = Part-whole (f a) w r h
Part-whole (hear f) (Start c ∷ w) r h = h
Part-whole (hear f) (Pause s ∷ w) r h = h
Part-whole (hear f) (Loss ∷ w) r h = h

-- a prefix of a part is a part
pub Part-prefix : {A : Type 0} (t : Course A) (u v : List Event) → Part t (u ++ v) → Part t u
Part-prefix t [] v h = tt
Part-prefix (done s) (e ∷ w) v h = h
Part-prefix (say d t) (e ∷ w) v h = (h.0, Part-prefix t w v h.1)
Part-prefix (hear f) (End a ∷ w) v h = Part-prefix (f a) w v h
Part-prefix (hear f) (Start c ∷ w) v h = h
Part-prefix (hear f) (Pause s ∷ w) v h = h
Part-prefix (hear f) (Loss ∷ w) v h = h

-- some whole word begins with each part
pub Whole-some : {A : Type 0} (t : Course A) → (v : List Event) × (r : A) × Whole t v r
Whole-some (done r) = ([], r, refl)
Whole-some (say d t) = let h = Whole-some t in (d ∷ h.0, h.1, (refl, h.2))
Whole-some (hear f) = let h = Whole-some (f NotStarted) in (End NotStarted ∷ h.0, h.1, h.2)

pub Whole-from_part : {A : Type 0} (t : Course A) (w : List Event) → Part t w → (v : List Event) × (r : A) × Whole t (w ++ v) r
Whole-from_part t [] h = Whole-some t
Whole-from_part (done s) (e ∷ w) h = absurd h
Whole-from_part (say d t) (e ∷ w) h = let k = Whole-from_part t w h.1 in (k.0, k.1, (h.0, k.2))
Whole-from_part (hear f) (End a ∷ w) h = Whole-from_part (f a) w h
Whole-from_part (hear f) (Start c ∷ w) h = absurd h
Whole-from_part (hear f) (Pause s ∷ w) h = absurd h
Whole-from_part (hear f) (Loss ∷ w) h = absurd h

-- a course and what follows it
pub Whole-and_then : {A B : Type 0} (t : Course A) (rest : A → Course B) (u v : List Event) (a : A) (b : B) → Whole t u a → Whole (rest a) v b → Whole (and_then t rest) (u ++ v) b
Whole-and_then (done r) rest [] v a b h k = rw h k
Whole-and_then (done r) rest (e ∷ w) v a b h k = absurd h
Whole-and_then (say d t) rest [] v a b h k = absurd h
Whole-and_then (say d t) rest (e ∷ w) v a b h k = (h.0, Whole-and_then t rest w v a b h.1 k)
Whole-and_then (hear f) rest [] v a b h k = absurd h
Whole-and_then (hear f) rest (End x ∷ w) v a b h k = Whole-and_then (f x) rest w v a b h k
Whole-and_then (hear f) rest (Start c ∷ w) v a b h k = absurd h
Whole-and_then (hear f) rest (Pause s ∷ w) v a b h k = absurd h
Whole-and_then (hear f) rest (Loss ∷ w) v a b h k = absurd h

pub Part-and_then : {A B : Type 0} (t : Course A) (rest : A → Course B) (u v : List Event) (a : A) → Whole t u a → Part (rest a) v → Part (and_then t rest) (u ++ v)
Part-and_then (done r) rest [] v a h k = rw h k
Part-and_then (done r) rest (e ∷ w) v a h k = absurd h
Part-and_then (say d t) rest [] v a h k = absurd h
Part-and_then (say d t) rest (e ∷ w) v a h k = (h.0, Part-and_then t rest w v a h.1 k)
Part-and_then (hear f) rest [] v a h k = absurd h
Part-and_then (hear f) rest (End x ∷ w) v a h k = Part-and_then (f x) rest w v a h k
Part-and_then (hear f) rest (Start c ∷ w) v a h k = absurd h
Part-and_then (hear f) rest (Pause s ∷ w) v a h k = absurd h
Part-and_then (hear f) rest (Loss ∷ w) v a h k = absurd h

pub Part-front : {A B : Type 0} (t : Course A) (rest : A → Course B) (u : List Event) → Part t u → Part (and_then t rest) u
Part-front t rest [] h = tt
Part-front (done r) rest (e ∷ w) h = absurd h
Part-front (say d t) rest (e ∷ w) h = (h.0, Part-front t rest w h.1)
Part-front (hear f) rest (End x ∷ w) h = Part-front (f x) rest w h
Part-front (hear f) rest (Start c ∷ w) h = absurd h
Part-front (hear f) rest (Pause s ∷ w) h = absurd h
Part-front (hear f) rest (Loss ∷ w) h = absurd h

-- an event that may follow a part makes a part
pub Part-follows : {A : Type 0} (t : Course A) (w : List Event) (e : Event) → Part t w → Follows t w e → Part t (w ++ e ∷ [])
Part-follows (done s) [] e h i = absurd i
Part-follows (done s) (x ∷ w) e h i = absurd i
Part-follows (say d t) [] e h i = (i, tt)
Part-follows (say d t) (x ∷ w) e h i = (h.0, Part-follows t w e h.1 i)
Part-follows (hear f) [] e h i = rw i.1 tt
Part-follows (hear f) (End a ∷ w) e h i = Part-follows (f a) w e h i
Part-follows (hear f) (Start c ∷ w) e h i = absurd h
Part-follows (hear f) (Pause s ∷ w) e h i = absurd h
Part-follows (hear f) (Loss ∷ w) e h i = absurd h

-- and nothing else does
pub Follows-part : {A : Type 0} (t : Course A) (w : List Event) (e : Event) → Part t (w ++ e ∷ []) → Follows t w e
Follows-part (done s) [] e h = absurd h
Follows-part (done s) (x ∷ w) e h = absurd h
Follows-part (say d t) [] e h = h.0
Follows-part (say d t) (x ∷ w) e h = Follows-part t w e h.1
Follows-part (hear f) [] (End a) h = (a, refl)
Follows-part (hear f) [] (Start c) h = absurd h
Follows-part (hear f) [] (Pause c) h = absurd h
Follows-part (hear f) [] Loss h = absurd h
Follows-part (hear f) (End a ∷ w) e h = Follows-part (f a) w e h
Follows-part (hear f) (Start c ∷ w) e h = absurd h
Follows-part (hear f) (Pause s ∷ w) e h = absurd h
Follows-part (hear f) (Loss ∷ w) e h = absurd h

-- the events decide the result, and no whole word begins another
pub Whole-one : {A : Type 0} (t : Course A) (w x y : List Event) (v : List Event) (r s : A) → Whole t w r → Whole t v s → w ++ x ≡ v ++ y → (w ≡ v) × (r ≡ s)
Whole-one (done q) [] x y [] r s h i e = (refl, cc)
Whole-one (done q) [] x y (b ∷ v) r s h i e = absurd i
Whole-one (done q) (a ∷ w) x y v r s h i e = absurd h
Whole-one (say d t) [] x y v r s h i e = absurd h
Whole-one (say d t) (a ∷ w) x y [] r s h i e = absurd i
Whole-one (say d t) (a ∷ w) x y (b ∷ v) r s h i e = let k = Whole-one t w x y v r s h.1 i.1 (cc) in (cc (h.0, i.0, k.0), k.1)
Whole-one (hear f) [] x y v r s h i e = absurd h
Whole-one (hear f) (Start c ∷ w) x y v r s h i e = absurd h
Whole-one (hear f) (Pause n ∷ w) x y v r s h i e = absurd h
Whole-one (hear f) (Loss ∷ w) x y v r s h i e = absurd h
Whole-one (hear f) (End a ∷ w) x y [] r s h i e = absurd i
Whole-one (hear f) (End a ∷ w) x y (Start c ∷ v) r s h i e = absurd i
Whole-one (hear f) (End a ∷ w) x y (Pause c ∷ v) r s h i e = absurd i
Whole-one (hear f) (End a ∷ w) x y (Loss ∷ v) r s h i e = absurd i
Whole-one (hear f) (End a ∷ w) x y (End b ∷ v) r s h i e =
    let q : a ≡ b = cc in
    let h' = rw q at h in
    let k = Whole-one (f b) w x y v r s h' i (cc) in (cc (k.0), k.1)

-- a word of two courses in a row is a word of each
pub Whole-split : {A B : Type 0} (t : Course A) (rest : A → Course B) (w : List Event) (b : B) → Whole (and_then t rest) w b → (u v : List Event) × (a : A) × (w ≡ u ++ v) × Whole t u a × Whole (rest a) v b
Whole-split (done a) rest w b h = ([], w, a, refl, refl, h)
Whole-split (say d t) rest [] b h = absurd h
Whole-split (say d t) rest (e ∷ w) b h = let k = Whole-split t rest w b h.1 in (e ∷ k.0, k.1, k.2, cc (k.3), (h.0, k.4), k.5)
Whole-split (hear f) rest [] b h = absurd h
Whole-split (hear f) rest (End x ∷ w) b h = let k = Whole-split (f x) rest w b h in (End x ∷ k.0, k.1, k.2, cc (k.3), k.4, k.5)
Whole-split (hear f) rest (Start c ∷ w) b h = absurd h
Whole-split (hear f) rest (Pause s ∷ w) b h = absurd h
Whole-split (hear f) rest (Loss ∷ w) b h = absurd h

-- what is done at once gives its result
done-is : (r : Bool) (w : List Event) (good : Bool) → Whole (done r) w good → good ≡ r
done-is r [] good h = sym h
done-is r (e ∷ w) good h = absurd h

-- a script whose answer is ignored is good
step-good : (name : List ℕ) (mode : Mode) → IsIgnored mode → (w : List Event) (good : Bool) → Whole (step name mode) w good → good ≡ true
step-good name Checked is w good h = absurd is
step-good name Ignored is w good h = let k = Whole-split (block name 30) (λ b. done true) w good h in done-is true k.1 good k.5
step-good name Once is w good h = let k = Whole-split (call (Script name) (λ a. done a)) (λ a. done true) w good h in done-is true k.1 good k.5

pub Ignored-good : (names : List (List ℕ)) (mode : Mode) (w : List Event) (good : Bool) → IsIgnored mode → Whole (run names mode) w good → good ≡ true
Ignored-good [] mode w good is h = done-is true w good h
Ignored-good (name ∷ names) mode w good is h =
    let k = Whole-split (step name mode) (λ b. if b then run names mode else done false) w good h in
    let g : k.2 ≡ true = step-good name mode is k.0 k.2 k.4 in
    Ignored-good names mode k.1 good is (subst (λ (b : Bool). Whole (if b then run names mode else done false) k.1 good) g k.5)
