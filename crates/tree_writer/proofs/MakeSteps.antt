-- The steps of a call of `make`.
use Rattle.std.proofs.Common.{◌≡◌, ℕ, zero, suc, ◌+◌, ◌-◌, ◌<◌, ◌^◌, true, List, [], ◌∷◌, ◌++◌, length, map, take, drop, min, Option, Some, None, Ok, refl, sym, ap, ◌∙◌, subst, arith, append_assoc, add-one}
use Rattle.std.specs.Prelude.{slice_get, is_some}
use Rattle.std.specs.Option.{unwrap_or}
use Rattle.std.specs.List.{All, AllByRecursion}
use Rattle.std.proofs.lemmas.List.Sums.{sum_by-append}
use Rattle.std.proofs.lemmas.List.Elements.{All-from_recursion}
use Rattle.std.proofs.lemmas.Option.{slice_get_within, get_or_from_slice_get}
use Rattle.upd_text.specs.Results.{◌>>=◌}
use Rattle.io_model.specs.Source.{File, Tree, Content, When, count_of, path_at, bytes_at, IsLength}
use Rattle.io_model.specs.Source.Content.{Told, Untold}
use Rattle.tree_writer.specs.declared.fault.WriteFault.{WriteFault}
use Rattle.tree_writer.specs.declared.spec.TreeSpec.{TreeSpec}
use Rattle.tree_writer.specs.Files.{Entry, as_file, entries_of, tree_of}
use Rattle.tree_writer.specs.Faults.{unless, first_of, causes, written_tree}
use Rattle.tree_writer.specs.Sink.{Added, StandBehind, TakesFile, LosesFile, TakesAll, TakesSome}
use Rattle.tree_writer.specs.Made.{size_of}
use Rattle.tree_writer.proofs.Steps.{take_at}

-- ---- files that are added one after another

adds_then : (a b c : Option Tree) (xs ys : Tree) → StandBehind a xs b → StandBehind b ys c → StandBehind a (xs ++ ys) c
adds_then None b c xs ys h k = subst (λ (o : Option Tree). StandBehind o ys c) h k
adds_then (Some t) b c xs ys h k = subst (λ (o : Option Tree). StandBehind o ys c) h k ∙ ap Some (append_assoc t xs ys)

path_some : (f : File) → is_some f.0 ≡ true → ◌≡◌ {A = File} (Some (unwrap_or f.0 []), f.1) f
path_some (None, bytes) h = absurd cc
path_some (Some path, bytes) h = refl

pub one_added : (old mid new : Added) (files : Tree) (i : ℕ) (f : File) → slice_get files i ≡ Some f → is_some f.0 ≡ true → TakesAll old (take i files) mid → TakesFile mid (unwrap_or f.0 []) f.1 new → TakesAll old (take (i + 1) files) new
one_added old mid new files i f here named before one = record {
  adds = subst (λ (t : Tree). StandBehind old.told t new.told) (ap (λ (g : File). take i files ++ g ∷ []) (path_some f named) ∙ sym (take_at files i f here)) (adds_then old.told mid.told new.told (take i files) ((Some (unwrap_or f.0 []), f.1) ∷ []) before.adds one.adds);
  count = omega (arith, before.count, one.count);
}

split_suc : (files : Tree) (i : ℕ) (f : File) → slice_get files i ≡ Some f → files ≡ take i files ++ f ∷ drop (suc i) files
split_suc [] i f here = absurd cc
split_suc (g ∷ files) zero f here = let same : g ≡ f = cc in ap (λ (h : File). h ∷ files) same
split_suc (g ∷ files) (suc i) f here = ap (λ (t : Tree). g ∷ t) (split_suc files i f here)

split_at : (files : Tree) (i : ℕ) (f : File) → slice_get files i ≡ Some f → files ≡ take i files ++ f ∷ drop (i + 1) files
split_at files i f here = split_suc files i f here ∙ ap (λ n. take i files ++ f ∷ drop n files) (sym (add-one i))

pub one_failed : (old mid new : Added) (files : Tree) (i : ℕ) (f : File) → slice_get files i ≡ Some f → is_some f.0 ≡ true → TakesAll old (take i files) mid → LosesFile mid (unwrap_or f.0 []) new → TakesSome old files new
one_failed old mid new files i f here named before one = record {
  front = take i files;
  path = unwrap_or f.0 [];
  bytes = f.1;
  rest = drop (i + 1) files;
  parts = split_at files i f here ∙ ap (λ (g : File). take i files ++ g ∷ drop (i + 1) files) (sym (path_some f named));
  mid = mid.told;
  adds = before.adds;
  may = one.may;
  count = omega (arith, before.count, one.count);
}

all_placed : (es : List Entry) → AllByRecursion (λ (f : File). is_some f.0 ≡ true) (map as_file es)
all_placed [] = tt
all_placed (e ∷ es) = (refl, all_placed es)

ok_is : (o : Option WriteFault) (tree files : Tree) → (unless o >>= λ _. Ok tree) ≡ Ok files → tree ≡ files
ok_is None tree files h = cc
ok_is (Some f) tree files h = absurd cc

-- each file that is written has a path
pub all_named : (spec : TreeSpec) (files : Tree) → written_tree spec ≡ Ok files → All (λ (f : File). is_some f.0 ≡ true) files
unfolding written_tree tree_of
all_named spec files h = subst (All (λ (f : File). is_some f.0 ≡ true)) (ok_is (first_of (causes spec)) (tree_of spec) files h) (All-from_recursion (λ (f : File). is_some f.0 ≡ true) (map as_file (entries_of spec)) (all_placed (entries_of spec)))

-- one of them
pub named_at : (files : Tree) (i : ℕ) (f : File) → All (λ (g : File). is_some g.0 ≡ true) files → slice_get files i ≡ Some f → is_some f.0 ≡ true
named_at files i f all here = ap (λ (g : File). is_some g.0) (sym (get_or_from_slice_get files i f f here)) ∙ all i f (slice_get_within files i f here)

-- ---- the files of the source

file_suc : (t : Tree) (i : ℕ) → i < length t → take (suc i) t ≡ take i t ++ (path_at t i, bytes_at t i) ∷ []
file_suc [] i lt = absurd (omega arith)
file_suc (f ∷ t) zero lt = refl
file_suc (f ∷ t) (suc i) lt = ap (λ (u : Tree). f ∷ u) (file_suc t i (omega arith))

file_is : (t : Tree) (i : ℕ) → i < length t → take (i + 1) t ≡ take i t ++ (path_at t i, bytes_at t i) ∷ []
file_is t i lt = ap (λ n. take n t) (add-one i) ∙ file_suc t i lt

pub next_file : (c : Content) (i : ℕ) (old new : Tree) → i < count_of c → When c (λ t. old ≡ take i t) → When c (λ t. new ≡ old ++ (path_at t i, bytes_at t i) ∷ []) → When c (λ t. new ≡ take (i + 1) t)
next_file (Untold n) i old new lt h k = tt
next_file (Told t) i old new lt h k = k ∙ ap (λ (u : Tree). u ++ (path_at t i, bytes_at t i) ∷ []) h ∙ sym (file_is t i lt)

size_next : (t : Tree) (i : ℕ) → i < length t → size_of (take (i + 1) t) ≡ size_of (take i t) + length (bytes_at t i)
size_next t i lt = ap size_of (file_is t i lt) ∙ sum_by-append (λ (f : File). length f.1) (take i t) ((path_at t i, bytes_at t i) ∷ []) ∙ omega arith

pub size_more : (c : Content) (i old new len : ℕ) → i < count_of c → When c (λ t. old ≡ min (size_of (take i t)) (2 ^ 64 - 1)) → IsLength c i len → new ≡ min (old + len) (2 ^ 64 - 1) → When c (λ t. new ≡ min (size_of (take (i + 1) t)) (2 ^ 64 - 1))
size_more (Untold n) i old new len lt h l e = tt
size_more (Told t) i old new len lt h l e = omega (arith, h, l, e, size_next t i lt)
