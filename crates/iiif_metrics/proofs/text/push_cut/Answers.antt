use Rattle.std.proofs.Common.{◌≡◌, ◌++◌, List, OnOk, codes, string_bytes, subst, ℕ}
use Rattle.iiif_metrics.specs.Exposition.{family_text}
use Rattle.iiif_metrics.specs.declared.text.MetricKind.TheVariants.{Counter}
use Rattle.iiif_metrics.proofs.text.push_cut.Goals as goal

pub returns : goal.returns
returns c =
    subst
    (λ (samples : List (List ℕ × ℕ)). OnOk c.push_family.result (string_bytes c.push_family.new.text ≡ string_bytes c.args.text.now ++ family_text (record {
      name = codes "iiif_answers_cut_total";
      help = codes "Answers that were cut off.";
      kind = Counter;
      samples = samples;
    })))
    c.cut_samples_in.ensures c.push_family.ensures
