-- No second answer, buffer or memory fits what the calls on a tree's text say: each is an equation. Assumes nothing.
use mathlib.Core.Path.{sym, ◌∙◌}
use lib.ListN.{length}
use Rattle.refusal.proofs.Fitting.{only_both}
use Rattle.tree.specs.Refusals.{tree_refusal}
use Rattle.text_tree.specs.Text.{tree_text}
use Rattle.text_tree.specs.Written.{written_of, buffer_after}
use Rattle.text_tree.specs.Unique.{TreesOne}

pub trees_one : TreesOne
trees_one = record {
  write_tree = λ t ns owns buffer.
      only_both (written_of (tree_refusal t ns owns) (length buffer) (tree_text ns owns)) (buffer_after (tree_refusal t ns owns) buffer (tree_text ns owns));
  read_tree = λ t s place line ns owns. record {
    one = λ a b p q. (λ i. record { answer = (p.0 ∙ sym q.0) i; found = record { answer = (p.1.0 ∙ sym q.1.0) i; found = (p.1.1 ∙ sym q.1.1) i } });
  };
}
