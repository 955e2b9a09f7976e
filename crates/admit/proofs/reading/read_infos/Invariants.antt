use Rattle.std.proofs.Common.{◌≡◌}
use Rattle.upd_text.specs.Told.{WhereTold}
use Rattle.admit.specs.Given.{OnlyInfos}
use Rattle.admit.proofs.Infos.{TextsUpTo, FilesAre}
use Rattle.admit.proofs.reading.read_infos.Given as goal

abbrev pub invariant-loop-i : goal.invariant-loop-i
invariant-loop-i g l = record {
  same : g.S.Source.content l.source ≡ g.S.Source.content l.fn.source;
  plan : g.S.Source.plan l.source ≡ g.S.Source.plan l.fn.source;
  faults : g.S.Source.faults l.source ≡ g.S.Source.faults l.fn.source;
  given : WhereTold (OnlyInfos l.heads) (g.S.Source.given l.fn.source) (g.S.Source.given l.source);
  texts : TextsUpTo (g.S.Source.content l.fn.source) l.i l.infos;
  files : FilesAre (g.S.Source.content l.fn.source) l.infos;
}
