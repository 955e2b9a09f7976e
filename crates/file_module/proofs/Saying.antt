-- What is written.
use Rattle.std.proofs.Common.{◌≡◌, subst}
use Rattle.std.specs.Prelude.{Some}
use Rattle.device_model.specs.declared.calls.Query.{Query}
use Rattle.device_model.specs.declared.module_word.ModuleWord.TheVariants.{Ask}
use Rattle.io_model.specs.Sink.{Written, Writes, WritesFront}
use Rattle.file_module.specs.declared.answer.FileAct.TheVariants as act
use Rattle.file_module.specs.Words.{reply_to}
use Rattle.file_module.specs.FileActs.{Says}

pub says_done : (query : Query) (old new : Written) → Writes old (reply_to query) new → Says (Some (Ask query)) act.Done old new
says_done query old new h = record {
  reply = λ q e done. let same : query ≡ q = cc in subst (λ (v : Query). Writes old (reply_to v) new) same h;
  silent = λ s e. cc;
  unasked = λ e. cc;
  front = λ q e failed. cc;
}

pub says_fault : (query : Query) (old new : Written) → WritesFront old (reply_to query) new → Says (Some (Ask query)) act.SinkFault old new
says_fault query old new h = record {
  reply = λ q e done. cc;
  silent = λ s e. cc;
  unasked = λ e. cc;
  front = λ q e failed. let same : query ≡ q = cc in subst (λ (v : Query). WritesFront old (reply_to v) new) same h;
}
