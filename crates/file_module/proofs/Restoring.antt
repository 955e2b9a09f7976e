-- What gives the target its content back, or finds that it has it.
use Rattle.std.proofs.Common.{◌≡◌, ◌≢◌, inl, ℕ, true, false, List, refl, sym, ◌∙◌}
use Rattle.std.specs.Prelude.{Option}
use Rattle.file_module.specs.declared.answer.FileAct.{FileAct}
use Rattle.file_module.specs.declared.answer.FileAct.TheVariants.{Done}
use Rattle.file_module.specs.declared.answer.Stop.{Stop}
use Rattle.file_module.specs.Contents.{Contents}
use Rattle.file_module.specs.Answers.{TouchesFresh, SetsTarget, GivesBack, Untouched, stopped_by}
use Rattle.file_module.proofs.Touches.{done_or_not}

true_false : true ≡ false → ⊥
true_false e = cc

-- the target has it already
pub gives_none : (bytes : Option (List ℕ)) (m : Contents) → m.on ≡ true → m.regular ≡ true → m.target ≡ bytes → GivesBack Done bytes m m
gives_none bytes m on regular same = record {
  sets = record { counts = record { on = on; told = refl; regular = refl; losses = refl; faults = refl }; target = inl refl; done = λ e. same; saved = refl };
  same = λ e. refl;
  irregular = λ e. absurd (true_false (sym regular ∙ e));
}

-- the target has another content
pub gives_anew : (bytes : Option (List ℕ)) (act : FileAct) (old new : Contents) → old.regular ≡ true → old.target ≢ bytes → SetsTarget act bytes old new → GivesBack act bytes old new
gives_anew bytes act old new regular other sets = record { sets = sets; same = λ e. absurd (other e); irregular = λ e. absurd (true_false (sym regular ∙ e)) }

-- it stopped while it looked
pub gives_cut : (bytes : Option (List ℕ)) (s : Stop) (old new : Contents) → TouchesFresh (stopped_by s) old new → Untouched (stopped_by s) old new → GivesBack (stopped_by s) bytes old new
gives_cut bytes s old new h untouched = record {
  sets = record { counts = h.counts; target = inl h.target; done = λ e. absurd (done_or_not s e); saved = h.saved };
  same = λ e. untouched;
  irregular = λ e. ((λ d. done_or_not s d), untouched);
}
