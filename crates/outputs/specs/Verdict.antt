-- Document 01, Check: its reply. It reports no byte written and lends no output.
use Rattle.std.specs.Prelude.{[]}
use Rattle.refusal.specs.Verdict.{Verdict, verdict_number, says_yes}
use Rattle.session.specs.Promise.{Reply}

abbrev pub judged : Verdict → Reply
judged v = record { number = verdict_number v; count = 0; verdict = says_yes v; output = [] }
