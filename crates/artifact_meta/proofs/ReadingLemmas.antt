-- A list of texts, read in order.
use Rattle.std.proofs.Common.{◌≡◌, ℕ, List, [], ◌∷◌, ◌++◌, refl, sym, ap, subst, ◌∙◌, append_assoc, append-nil}
use Rattle.std.specs.Prelude.{◌↔◌, Result, Ok, Err, IsOk, map}
use Rattle.std.specs.List.{All}
use Rattle.std.proofs.lemmas.List.Elements.{All-nil, All-cons, All-head, All-tail}
use Rattle.serde_json.specs.Data.{Data, string, array, Items, no_items, item}
use Rattle.upd_text.specs.declared.fault.NameFault.{NameFault}
use Rattle.upd_text.specs.Results.{◌>>=◌}
use Rattle.artifact_meta.specs.declared.fault.Field.{Field}
use Rattle.artifact_meta.specs.declared.fault.MetaFault.{MetaFault}
use Rattle.artifact_meta.specs.Meta.{text, texts, texts_after, good}
use Rattle.artifact_meta.specs.Reading.{list_of, AreRead, HasFirstFault}

module _ (reads : List ℕ → Result (List ℕ) NameFault) (field : Field) where
  -- ---- what was read

  read_at : (r : Result (List ℕ) MetaFault) (front found : List (List ℕ)) (d : Data) (ds : Items) → text reads field d ≡ r
      → ((next : List (List ℕ)) → texts_after next reads field ds ≡ Ok found → (rest : List (List ℕ)) × (found ≡ next ++ rest) × AreRead (text reads field) (list_of ds) rest)
      → r >>= (λ s. texts_after (front ++ s ∷ []) reads field ds) ≡ Ok found
      → (rest : List (List ℕ)) × (found ≡ front ++ rest) × AreRead (text reads field) (d ∷ list_of ds) rest
  read_at (Ok s) front found d ds is later h =
      let l = later (front ++ s ∷ []) h in
      (s ∷ l.0, l.1 ∙ append_assoc front (s ∷ []) l.0, λ i. is i ∷ l.2 i)
  read_at (Err e) front found d ds is later h = absurd cc

  after_read : (front found : List (List ℕ)) (items : Items) → texts_after front reads field items ≡ Ok found
      → (rest : List (List ℕ)) × (found ≡ front ++ rest) × AreRead (text reads field) (list_of items) rest
  after_read front found no_items h = ([], (let e : front ≡ found = cc in sym e ∙ sym (append-nil front)), refl)
  after_read front found (item d ds) h = read_at (text reads field d) front found d ds refl (λ next. after_read next found ds) h

  read_after : (front rest : List (List ℕ)) (items : Items) → AreRead (text reads field) (list_of items) rest → texts_after front reads field items ≡ Ok (front ++ rest)
  read_after front [] no_items h = ap (λ (l : List (List ℕ)). Ok l) (sym (append-nil front))
  read_after front (t ∷ rest) no_items h = absurd cc
  read_after front [] (item d ds) h = absurd cc
  read_after front (t ∷ rest) (item d ds) h =
      let first : text reads field d ≡ Ok t = cc in
      let later : map (text reads field) (list_of ds) ≡ map (λ (text : List ℕ). Ok text) rest = cc in
      rw first (read_after (front ++ t ∷ []) rest ds later ∙ ap (λ (l : List (List ℕ)). Ok l) (append_assoc front (t ∷ []) rest))

  pub lists_read : (items : Items) (found : List (List ℕ)) → (texts reads field (array items) ≡ Ok found) ↔ AreRead (text reads field) (list_of items) found
  lists_read items found = (
    λ h. let r = after_read [] found items h in subst (AreRead (text reads field) (list_of items)) (sym r.1) r.2,
    λ h. read_after [] found items h,
  )

  -- ---- the first fault

  fault_at : (r : Result (List ℕ) MetaFault) (front : List (List ℕ)) (fault : MetaFault) (d : Data) (ds : Items) → text reads field d ≡ r
      → ((next : List (List ℕ)) → texts_after next reads field ds ≡ Err fault → HasFirstFault (text reads field) (list_of ds) fault)
      → r >>= (λ s. texts_after (front ++ s ∷ []) reads field ds) ≡ Err fault
      → HasFirstFault (text reads field) (d ∷ list_of ds) fault
  fault_at (Ok s) front fault d ds is later h =
      let l = later (front ++ s ∷ []) h in
      record { before = d ∷ l.before; bad = l.bad; behind = l.behind; place = ap (λ (rest : List Data). d ∷ rest) l.place; good = All-cons (λ e. IsOk (text reads field e)) d l.before (subst IsOk (sym is) refl) l.good; fault_is = l.fault_is }
  fault_at (Err e) front fault d ds is later h =
      record { before = []; bad = d; behind = list_of ds; place = refl; good = All-nil (λ e. IsOk (text reads field e)); fault_is = is ∙ (let same : e ≡ fault = cc in ap (λ (f : MetaFault). Err f) same) }

  after_fault : (front : List (List ℕ)) (fault : MetaFault) (items : Items) → texts_after front reads field items ≡ Err fault → HasFirstFault (text reads field) (list_of items) fault
  after_fault front fault no_items h = absurd cc
  after_fault front fault (item d ds) h = fault_at (text reads field d) front fault d ds refl (λ next. after_fault next fault ds) h

  -- an item that is read is passed over
  passed : (r : Result (List ℕ) MetaFault) (front : List (List ℕ)) (fault : MetaFault) (ds : Items) → IsOk r → ((next : List (List ℕ)) → texts_after next reads field ds ≡ Err fault) → r >>= (λ s. texts_after (front ++ s ∷ []) reads field ds) ≡ Err fault
  passed (Ok s) front fault ds is later = later (front ++ s ∷ [])
  passed (Err e) front fault ds is later = absurd cc

  fault_after : (items : Items) (fault : MetaFault) (front : List (List ℕ)) (before : List Data) (bad : Data) (behind : List Data) → list_of items ≡ before ++ bad ∷ behind
      → All (λ d. IsOk (text reads field d)) before → text reads field bad ≡ Err fault → texts_after front reads field items ≡ Err fault
  fault_after no_items fault front [] bad behind place good is = absurd cc
  fault_after no_items fault front (e ∷ before) bad behind place good is = absurd cc
  fault_after (item d ds) fault front [] bad behind place good is =
      let same : d ≡ bad = cc in
      rw same (rw is refl)
  fault_after (item d ds) fault front (e ∷ before) bad behind place good is =
      let same : d ≡ e = cc in
      let rest : list_of ds ≡ before ++ bad ∷ behind = cc in
      passed (text reads field d) front fault ds (subst (λ (x : Data). IsOk (text reads field x)) (sym same) (All-head (λ x. IsOk (text reads field x)) e before good))
      (λ next. fault_after ds fault next before bad behind rest (All-tail (λ x. IsOk (text reads field x)) e before good) is)

  pub lists_fault : (items : Items) (fault : MetaFault) → (texts reads field (array items) ≡ Err fault) ↔ HasFirstFault (text reads field) (list_of items) fault
  lists_fault items fault = (λ h. after_fault [] fault items h, λ h. fault_after items fault [] h.before h.bad h.behind h.place h.good h.fault_is)

  one_at : (r : Result (List ℕ) MetaFault) → r >>= (λ t. Ok (t ∷ [])) ≡ r >>= (λ t. texts_after ([] ++ t ∷ []) reads field no_items)
  one_at (Ok t) = refl
  one_at (Err e) = refl

  pub lists_one : (bytes : List ℕ) → texts reads field (string bytes) ≡ texts reads field (array (item (string bytes) no_items))
  lists_one bytes = one_at (good field (reads bytes))

pub ruleset list_rules = (lists_read, lists_fault, lists_one)
