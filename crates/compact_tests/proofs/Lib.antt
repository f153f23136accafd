pub mod RigLaws
