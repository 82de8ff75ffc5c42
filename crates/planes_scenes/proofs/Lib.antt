-- One file a scene.
mod Probe
mod SceneStar9
mod SceneFirst
mod SceneCells
mod SceneTie
mod SceneVault5
mod SceneVault3
mod SceneDups
mod SceneWinding
mod SceneRank
mod SceneStep
mod SceneBuried
mod SceneQuad
