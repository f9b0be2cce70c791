-- The features of a measure by feature values. Assumes nothing.
use Rattle.std.specs.Prelude.{List}
use Rattle.sketch.specs.Held.{list_of}
use Rattle.sketch.specs.declared.feature.Feature.{Feature}
use Rattle.novelty.specs.declared.values.FeatureValues.{FeatureValues}

abbrev pub features_of : FeatureValues → List Feature
features_of m = list_of m.features
