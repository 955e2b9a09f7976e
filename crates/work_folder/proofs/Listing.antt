-- Names that are written one after the other.
use Rattle.std.proofs.Common.{◌≡◌, ◌⊎◌, inl, inr, ℕ, true, false, List, [], ◌∷◌, ◌++◌, refl, sym, ◌∙◌, ap, subst, append_assoc, arith}
use Rattle.std.specs.List.{Contains}
use Rattle.std.specs.List.Sorted.{IsStrictlySortedBy}
use Rattle.std.proofs.lemmas.List.Elements.{All-contains, Contains-append_left, Contains-push, Contains-push_cases}
use Rattle.upd_text.specs.Order.{byte_cmp, is_below, last_from, itself}
use Rattle.upd_text.proofs.OrderLemmas.{less, sorted_push, last_from-push}
use Rattle.device_model.specs.declared.calls.Part.{Part}
use Rattle.device_model.specs.Work.{with_bytes}
use Rattle.device_model.specs.State.{State, after_work}
use Rattle.device_model.proofs.Appends.{after_work-twice}
use Rattle.work_folder.specs.Folder.{lines_of, Lists}
use Rattle.work_folder.specs.Adding.{IsLast, IsNext}
use Rattle.work_folder.proofs.Above.{both, not_below}

-- what was written so far
pub record Listed (names : List (List ℕ)) (last : List ℕ) (part : Part) (path : List ℕ) (old now : State) : Type 0 where
  pub done : List (List ℕ)
  pub ascending : IsStrictlySortedBy byte_cmp done
  pub ends : last_from itself [] done ≡ last
  pub held : (name : List ℕ) → Contains done name → Contains names name
  pub rest : (name : List ℕ) → Contains names name → Contains done name ⊎ (is_below last name ≡ true)
  pub added : now ≡ after_work (with_bytes part path (lines_of done)) old

lines_of-push : (names : List (List ℕ)) (name : List ℕ) → lines_of (names ++ name ∷ []) ≡ lines_of names ++ (name ++ 10 ∷ [])
lines_of-push [] name = refl
lines_of-push (n ∷ names) name = ap (λ (l : List ℕ). n ++ 10 ∷ l) (lines_of-push names name) ∙ sym (append_assoc n (10 ∷ lines_of names) (name ++ 10 ∷ []))

module _ (names : List (List ℕ)) (last next : List ℕ) (part : Part) (path : List ℕ) (old mid new : State) where
  still : (done : List (List ℕ)) → IsNext names last next → (name : List ℕ) → Contains names name → Contains done name ⊎ (is_below last name ≡ true) → Contains (done ++ next ∷ []) name ⊎ (is_below next name ≡ true)
  still done h name c (inl there) = inl (Contains-append_left done (next ∷ []) name there)
  still done h name c (inr above) = by (not_below name next (All-contains (λ n. is_below last n ≡ true → is_below n next ≡ false) names name h.first c above))
    where
      by : (name ≡ next) ⊎ (is_below next name ≡ true) → Contains (done ++ next ∷ []) name ⊎ (is_below next name ≡ true)
      by (inl same) = inl (subst (λ (n : List ℕ). Contains (done ++ next ∷ []) n) (sym same) (Contains-push done next))
      by (inr more) = inr more

  from_names : (done : List (List ℕ)) → IsNext names last next → ((name : List ℕ) → Contains done name → Contains names name) → (name : List ℕ) → Contains done name ⊎ (next ≡ name) → Contains names name
  from_names done h held name (inl there) = held name there
  from_names done h held name (inr same) = subst (λ (n : List ℕ). Contains names n) same h.among

  pub Listed-more : Listed names last part path old mid → IsNext names last next → new ≡ after_work (with_bytes part path (next ++ 10 ∷ [])) mid → Listed names next part path old new
  Listed-more l h add = record {
    done = l.done ++ next ∷ [];
    ascending = sorted_push [] l.done next l.ascending (ap (λ (x : List ℕ). byte_cmp x next) l.ends ∙ less (byte_cmp last next) h.above);
    ends = last_from-push itself [] l.done next;
    held = λ name c. from_names l.done h l.held name (Contains-push_cases l.done next name c);
    rest = λ name c. still l.done h name c (l.rest name c);
    added = subst (λ (b : List ℕ). new ≡ after_work (with_bytes part path b) old) (sym (lines_of-push l.done next)) (after_work-twice part path (next ++ 10 ∷ []) (lines_of l.done) old mid new l.added add);
  }

  all_there : (done : List (List ℕ)) → IsLast names last → (name : List ℕ) → Contains names name → Contains done name ⊎ (is_below last name ≡ true) → Contains done name
  all_there done h name c (inl there) = there
  all_there done h name c (inr above) = both (is_below last name) above (All-contains (λ n. is_below last n ≡ false) names name h c)

  pub Listed-all : (l : Listed names last part path old mid) → IsLast names last → Lists names (lines_of l.done)
  Listed-all l h = record { sorted = l.done; ascending = l.ascending; same = λ name. (l.held name, λ c. all_there l.done h name c (l.rest name c)); text = refl }

nothing_ascends : IsStrictlySortedBy byte_cmp []
unfolding IsStrictlySortedBy
nothing_ascends = tt

pub Listed-none : (names : List (List ℕ)) (part : Part) (path : List ℕ) (old now : State) → ((name : List ℕ) → Contains names name → is_below [] name ≡ true) → now ≡ after_work (with_bytes part path []) old → Listed names [] part path old now
Listed-none names part path old now all add = record {
  done = [];
  ascending = nothing_ascends;
  ends = refl;
  held = λ name c. absurd (nowhere name c);
  rest = λ name c. inr (all name c);
  added = add;
}
  where
    nowhere : (name : List ℕ) → Contains [] name → ⊥
    nowhere name c = let lt = c.1 in omega arith
