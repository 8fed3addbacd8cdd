use Rattle.std.proofs.Common.{rules, ◌≡◌, codes, sym, ap, arith}
use Rattle.std.proofs.lemmas.Slice.Eq.{text_from_reads}
use Rattle.forms.specs.Grammar.{named}
use Rattle.forms.proofs.word.keyword_in.Goals as goal

pub returns-in-unlink : goal.returns-in-unlink
returns-in-unlink c = let e : c.args.word.now ≡ codes "unlink" = text_from_reads _ (codes "unlink") (omega arith) (search rules) in ap named (sym e)

pub returns-in-explain : goal.returns-in-explain
returns-in-explain c = let e : c.args.word.now ≡ codes "explain" = text_from_reads _ (codes "explain") (omega arith) (search rules) in ap named (sym e)

pub returns-in-discard : goal.returns-in-discard
returns-in-discard c = let e : c.args.word.now ≡ codes "discard" = text_from_reads _ (codes "discard") (omega arith) (search rules) in ap named (sym e)

pub returns-in-bring : goal.returns-in-bring
returns-in-bring c = let e : c.args.word.now ≡ codes "bring" = text_from_reads _ (codes "bring") (omega arith) (search rules) in ap named (sym e)

pub returns-in-link : goal.returns-in-link
returns-in-link c = let e : c.args.word.now ≡ codes "link" = text_from_reads _ (codes "link") (omega arith) (search rules) in ap named (sym e)

pub returns-in-label : goal.returns-in-label
returns-in-label c = let e : c.args.word.now ≡ codes "label" = text_from_reads _ (codes "label") (omega arith) (search rules) in ap named (sym e)

pub returns-in-list : goal.returns-in-list
returns-in-list c = let e : c.args.word.now ≡ codes "list" = text_from_reads _ (codes "list") (omega arith) (search rules) in ap named (sym e)
