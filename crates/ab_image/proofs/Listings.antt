-- The sum that a type-info lists.
use Rattle.std.proofs.Common.{◌≡◌, ◌∙◌, inl, inr, ℕ, ◌<◌, ◌≤◌, Bool, true, false, List, length, refl, sym, ap, subst, arith}
use Rattle.std.specs.Prelude.{nat_lt, if◌then◌else◌, Option, Some, None, Result, Ok, Err, IfOk, IfErr, option_and_then}
use Rattle.std.specs.Option.{ok_or}
use Rattle.std.specs.Result.{result_ok}
use Rattle.std.proofs.lemmas.Bool.Decides.{nat_tests}
use Rattle.artifact_meta.specs.declared.fault.MetaFault.{MetaFault}
use Rattle.artifact_meta.specs.declared.fault.MetaFault.TheVariants as meta
use Rattle.artifact_meta.specs.declared.info.TypeInfo.{TypeInfo}
use Rattle.artifact_meta.specs.Meta.{Answers, type_info_of}
use Rattle.io_model.specs.Source.{Content, When, bytes_at}
use Rattle.io_model.specs.Source.Content.{Told, Untold}
use Rattle.ab_image.specs.declared.report.AbAct.{AbAct}
use Rattle.ab_image.specs.declared.report.AbAct.TheVariants as answer
use Rattle.ab_image.specs.Artifact.{sum_listed, listed_in}
use Rattle.ab_image.specs.Finding.{NoText, NoSum, listed_at, unread_by}

long-listed : (bytes : List ℕ) → 65536 < length bytes → listed_in bytes ≡ None
unfolding listed_in
long-listed bytes long = by-test (nat_lt 65536 (length bytes)) (grind (arith, nat_tests))
  where
    by-test : (b : Bool) → b ≡ true → (if b then None else option_and_then sum_listed (result_ok (type_info_of bytes))) ≡ None
    by-test true e = refl
    by-test false e = absurd cc

short-listed : (bytes : List ℕ) → length bytes ≤ 65536 → listed_in bytes ≡ option_and_then sum_listed (result_ok (type_info_of bytes))
unfolding listed_in
short-listed bytes short = by-test (nat_lt 65536 (length bytes)) (grind (arith, nat_tests))
  where
    by-test : (b : Bool) → b ≡ false → (if b then None else option_and_then sum_listed (result_ok (type_info_of bytes))) ≡ option_and_then sum_listed (result_ok (type_info_of bytes))
    by-test true e = absurd cc
    by-test false e = refl

-- a type-info that isn't read as it is too long lists nothing
pub unread-listed : (content : Content) (i : ℕ) (type_info : Option ℕ) (stop : AbAct) → type_info ≡ Some i → NoText content i stop → NoSum content type_info stop
unread-listed (Untold n) i type_info answer.NoChecksum e h = tt
unread-listed (Told t) i type_info answer.NoChecksum e h = ap (listed_at t) e ∙ long-listed (bytes_at t i) h
unread-listed content i type_info answer.SourceFault e h = tt
unread-listed content i type_info answer.NoMemory e h = tt
unread-listed content i type_info answer.Done e h = absurd h
unread-listed content i type_info answer.Usage e h = absurd h
unread-listed content i type_info (answer.BadPayload n) e h = absurd h
unread-listed content i type_info (answer.TooLong n) e h = absurd h
unread-listed content i type_info (answer.Differs a b) e h = absurd h
unread-listed content i type_info answer.NotReady e h = absurd h
unread-listed content i type_info answer.DiskFault e h = absurd h
unread-listed content i type_info answer.SinkFault e h = absurd h
unread-listed content i type_info answer.Off e h = absurd h

module _ (content : Content) (i : ℕ) (type_info : Option ℕ) (text : List ℕ) (e : type_info ≡ Some i) (short : length text ≤ 65536) where
  -- what the text that was read lists
  text-listed : When content (λ tree. text ≡ bytes_at tree i) → (o : Option (List ℕ)) → option_and_then sum_listed (result_ok (type_info_of text)) ≡ o → When content (λ tree. listed_at tree type_info ≡ o)
  text-listed is o lists = by-content content is
    where
      by-content : (c : Content) → When c (λ tree. text ≡ bytes_at tree i) → When c (λ tree. listed_at tree type_info ≡ o)
      by-content (Untold n) is = tt
      by-content (Told t) is = ap (listed_at t) e ∙ ap listed_in (sym is) ∙ short-listed text short ∙ lists

  module _ (is : When content (λ tree. text ≡ bytes_at tree i)) where
    pub read-listed : (info : TypeInfo) (r : Result (List ℕ) AbAct) → Answers (Ok info) (type_info_of text) → r ≡ ok_or (sum_listed info) answer.NoChecksum → IfOk r (λ sum. When content (λ tree. listed_at tree type_info ≡ Some sum)) × IfErr r (λ stop. NoSum content type_info stop)
    read-listed info r reads gives = subst (λ (r : Result (List ℕ) AbAct). IfOk r (λ sum. When content (λ tree. listed_at tree type_info ≡ Some sum)) × IfErr r (λ stop. NoSum content type_info stop)) (sym gives)
        (by-sum (sum_listed info) (text-listed is (sum_listed info) (ap (λ (m : Result TypeInfo MetaFault). option_and_then sum_listed (result_ok m)) reads)))
      where
        by-sum : (o : Option (List ℕ)) → When content (λ tree. listed_at tree type_info ≡ o) → IfOk (ok_or o answer.NoChecksum) (λ sum. When content (λ tree. listed_at tree type_info ≡ Some sum)) × IfErr (ok_or o answer.NoChecksum) (λ stop. NoSum content type_info stop)
        by-sum (Some sum) h = (h, tt)
        by-sum None h = (tt, h)

    by-answer : (fault : MetaFault) → NoSum content type_info answer.NoChecksum → NoSum content type_info (unread_by fault)
    by-answer meta.NoMemory h = tt
    by-answer _ h = h

    -- a type-info that has a fault lists nothing
    pub fault-listed : (fault : MetaFault) → Answers (Err fault) (type_info_of text) → NoSum content type_info (unread_by fault)
    fault-listed fault (inl memory) = subst (λ (f : MetaFault). NoSum content type_info (unread_by f)) (sym memory) tt
    fault-listed fault (inr reads) = by-answer fault (text-listed is None (ap (λ (m : Result TypeInfo MetaFault). option_and_then sum_listed (result_ok m)) reads))
