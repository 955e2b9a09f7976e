-- What a boot leaves held.
use Rattle.std.proofs.Common.{◌≡◌, ◌⊎◌, ⊎_elim, inl, inr, List, refl, sym, ap, subst}
use Rattle.std.specs.Prelude.{Option, Bool, true}
use Rattle.device_model.specs.declared.calls.Event.{Event}
use Rattle.flow_table.specs.Valid.{is_valid, is_outcome, is_undoable, is_reboot, is_count}
use Rattle.flow_table.specs.Table.{fresh_position}
use Rattle.flow_table.specs.declared.position.Outcome.{Outcome}
use Rattle.flow_table.specs.declared.position.Outcome.TheVariants as outcome
use Rattle.flow_table.specs.declared.position.Position.{Position}
use Rattle.flow_table.proofs.Steps.{first_entered}
use Rattle.flow_words.specs.Pieces.{End}
use Rattle.flow_words.specs.Causes.{HasCommit}
use Rattle.flow_words.proofs.Outcomes.{committed-by, inconsistent-by}
use Rattle.flow_drive.specs.Calls.{callees}
use Rattle.flow_drive.specs.Drive.{Goes, Leads, at}
use Rattle.record_codec.specs.declared.entry.Entry.{Entry}
use Rattle.record_codec.specs.declared.entry.Db.{Db}
use Rattle.record_codec.specs.declared.entry.Db.TheVariants.{Empty, Full}
use Rattle.record_codec.specs.Held.{held}
use Rattle.record_codec.specs.Spelling.{IsRight, IfFull}
use Rattle.client_top.specs.Finds.{Request, begun}
use Rattle.client_top.specs.Boot.{Boot, nothing, stays, runs, begins as begins_untold, breaks_off, is_stop}
use Rattle.client_top.specs.Promises.{Enters, Was, BreaksIn, Mixed, before, here, KeepsOld, Holds, same, old, new, mixed}
use Rattle.client_top.proofs.Starts.{Started, goes_on, begins, started}

-- what is known where a deployment starts at p
record Began (c : Db) (e : Entry) (p : Position) : Type 0 where
  valid : is_valid p ≡ true
  committed : p.outcome ≡ outcome.Committed → Was outcome.Committed c
  inconsistent : p.outcome ≡ outcome.Inconsistent → BreaksIn c

fresh-valid : is_valid fresh_position ≡ true
unfolding is_outcome is_undoable is_reboot is_count
fresh-valid = refl

clean : (c : Db) (e : Entry) → Began c e fresh_position
clean c e = record { valid = fresh-valid; committed = λ h. absurd cc; inconsistent = λ h. absurd cc }

began : (c : Db) (e : Entry) (p : Position) → IfFull IsRight c → Started c e p → Began c e p
began Empty e p right (goes_on o is enters) = absurd cc
began (Full x) e p right (goes_on o is enters) =
    let valid : is_valid e.position ≡ true = subst (λ (d : Db). IfFull (λ y. is_valid y.position ≡ true) d) is right.position in
    let led = first_entered e.position p o valid enters in
    record {
      valid = led.valid;
      committed = λ h. subst (Was outcome.Committed) (sym is) (led.committed h);
      inconsistent = λ h. subst BreaksIn (sym is) (led.broken h);
    }
began c e p right (begins plan is fresh) = subst (Began c e) (sym fresh) (clean c e)

module _ (asked : Request) (c : Db) (e : Entry) (p : Position) (events : List Event) (b : Began c e p) (enters : Enters asked c e p) where
  by-outcome : (q : Position) (o : Outcome) → q.outcome ≡ o → (q.outcome ≡ outcome.Committed → Was outcome.Committed c ⊎ HasCommit e.kinds events) → (q.outcome ≡ outcome.Inconsistent → Mixed asked c e p events) → Holds asked c events (at e q)
  by-outcome q outcome.Undecided is commits breaks = old e p enters (subst KeepsOld (sym is) tt) (ap (λ (x : Outcome). held (at e (record q { outcome = x }))) is)
  by-outcome q outcome.Kept is commits breaks = old e p enters (subst KeepsOld (sym is) tt) (ap (λ (x : Outcome). held (at e (record q { outcome = x }))) is)
  by-outcome q outcome.RolledBack is commits breaks = old e p enters (subst KeepsOld (sym is) tt) (ap (λ (x : Outcome). held (at e (record q { outcome = x }))) is)
  by-outcome q outcome.Committed is commits breaks = new e p enters is (ap (λ (x : Outcome). held (at e (record q { outcome = x }))) is) (commits is)
  by-outcome q outcome.Inconsistent is commits breaks = mixed e p enters is (ap (λ (x : Outcome). held (at e (record q { outcome = x }))) is) (breaks is)

  went : (end : End) (q : Position) → Goes asked.site e (is_stop asked.command) p events end q → Holds asked c events (at e q)
  went end q g = by-outcome q q.outcome refl
      (λ h. ⊎_elim (λ was. inl (b.committed was)) (λ did. inr did) (committed-by (callees asked.site e) g b.valid h))
      (λ h. ⊎_elim (λ was. before (b.inconsistent was)) (λ did. here did) (inconsistent-by g b.valid h))

  led : (end : End) (d : Db) → Leads asked.site e (is_stop asked.command) p events end d → Holds asked c events d
  led end d l = subst (Holds asked c events) (sym l.stands) (went end l.last l.goes)

-- it goes on, or begins over what c holds
own-by : (c : Db) (e : Entry) (p : Position) → Started c e p → (c ≡ Full e) ⊎ (e.before ≡ held c)
own-by c e p (goes_on o is enters) = inl is
own-by c e p (begins plan is fresh) = inr (ap (λ (x : Entry). x.before) is)

pub holds : (asked : Request) (c d : Db) (events : List Event) (end : Option End) → IfFull IsRight c → Boot asked c events end d → Holds asked c events d
holds asked c d events end right nothing = same refl
holds asked c d events end right (stays h) = same refl
holds asked c d events end right (runs {end = e1} e p is l) =
    let how = started asked.command asked.site asked.content c e p is in
    led asked c e p events (began c e p right how) (record { own = own-by c e p how; found = inl is }) e1 d l
holds asked c d events end right (begins_untold {end = e1} plan install is fits l) =
    led asked c (begun c plan) fresh_position events (clean c (begun c plan)) (record { own = inr refl; found = inr (record { untold = is; plan = plan; fits = fits; is = refl; fresh = refl }) }) e1 d
    (subst (λ (s : Bool). Leads asked.site (begun c plan) s fresh_position events e1 d) (sym (ap is_stop install)) l)
holds asked c d events end right breaks_off = same refl
